use Rattle.std.proofs.Common.{inl, refl, arith}
use Rattle.weedle_rules.proofs.OutcomeFacts.{it_ends}
use Rattle.weedle_syntax.proofs.LayFacts.{set_out_tail, one_follows, tail_on, separator_inside, no_separator, no_item_follows}
use Rattle.weedle_syntax.proofs.WantedFacts.{wanted_by, wanted_item, wanted_tail}
use Rattle.weedle_syntax.proofs.walk.items.tail.Goals as goal

pub end-requires-clause-wanted : goal.end-requires-clause-wanted
end-requires-clause-wanted c = wanted_by c.loop-behind.invariant.1 c.loop-behind.invariant.0.left c.requires.row (inl (refl, refl))

pub loop-behind-init : goal.loop-behind-init
loop-behind-init c = (
  set_out_tail c.args.table.now.text c.args.node.rule c.args.item c.args.separator c.args.depth c.args.node.start c.args.node.end c.requires.row _ c.requires.empty c.requires.reads c.requires.within,
  c.requires.wanted,
)

pub end-requires-in-Some-clause-within : goal.end-requires-in-Some-clause-within
end-requires-in-Some-clause-within c = separator_inside c.args.table.now.text c.args.node.rule c.args.item c.args.separator c.args.depth c.args.node.start c.args.node.end c.requires.row c.loop-behind.at _ _ c.loop-behind.invariant.0 c.in-Some.ensures.right

pub end-requires-in-Some-clause-wanted : goal.end-requires-in-Some-clause-wanted
end-requires-in-Some-clause-wanted c = wanted_item c.args.table.now c.args.node.rule c.args.item c.args.separator c.loop-behind.at c.in-Some.behind c.requires.row c.loop-behind.invariant.1 c.loop-behind.invariant.0.left (it_ends c.in-Some.ensures.right)

pub loop-behind-smaller : goal.loop-behind-smaller
loop-behind-smaller c =
    let on = tail_on c.args.table.now.text c.args.node.rule c.args.item c.args.separator c.args.depth c.args.node.start c.args.node.end c.requires.row c.loop-behind.at c.in-Some.behind c.in-Some-end.end _ c.loop-behind.invariant.0 c.in-Some.ensures.right c.in-Some-end.ensures.right in
    omega (arith, on.0, on.1)

pub loop-behind-preserved : goal.loop-behind-preserved
loop-behind-preserved c = (
  one_follows c.args.table.now.text c.args.node.rule c.args.item c.args.separator c.args.depth c.args.node.start c.args.node.end c.requires.row c.loop-behind.at c.in-Some.behind c.in-Some-end.end _ _ _ c.in_ok-push.ensures.items c.in_ok-push-2.ensures.items c.loop-behind.invariant.0 c.in-Some.ensures.right c.in-Some-end.ensures.right,
  wanted_tail c.args.table.now c.args.node.rule c.args.item c.args.separator c.loop-behind.at c.in-Some.behind c.in-Some-end.end c.args.node.end c.requires.row c.loop-behind.invariant.1 c.loop-behind.invariant.0.left (it_ends c.in-Some.ensures.right) (it_ends c.in-Some-end.ensures.right),
)

pub returns : goal.returns
returns c = no_separator c.args.table.now.text c.args.node.rule c.args.item c.args.separator c.args.depth c.args.node.start c.args.node.end c.requires.row c.loop-behind.at _ c.loop-behind.invariant.0 c.in_default.ensures.right

pub returns-in_default-end : goal.returns-in_default-end
returns-in_default-end c = no_item_follows c.args.table.now.text c.args.node.rule c.args.item c.args.separator c.args.depth c.args.node.start c.args.node.end c.requires.row c.loop-behind.at c.in-Some.behind _ c.loop-behind.invariant.0 c.in-Some.ensures.right c.in_default-end.ensures.right

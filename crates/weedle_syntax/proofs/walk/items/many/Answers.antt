use Rattle.std.proofs.Common.{inl, refl, arith}
use Rattle.weedle_rules.proofs.OutcomeFacts.{it_ends}
use Rattle.weedle_syntax.proofs.LayFacts.{set_out_items, one_item, items_on, items_end}
use Rattle.weedle_syntax.proofs.WantedFacts.{wanted_by, wanted_again}
use Rattle.weedle_syntax.proofs.walk.items.many.Goals as goal

pub loop-end-init : goal.loop-end-init
loop-end-init c = (
  set_out_items c.args.table.now.text c.args.node.rule c.args.item c.args.depth c.args.node.start c.args.node.end c.requires.row _ c.requires.empty c.requires.reads c.requires.within,
  c.requires.wanted,
)

pub end-requires-clause-wanted : goal.end-requires-clause-wanted
end-requires-clause-wanted c = wanted_by c.loop-end.invariant.1 c.loop-end.invariant.0.left c.requires.row (inl (refl, refl))

pub loop-end-smaller : goal.loop-end-smaller
loop-end-smaller c =
    let on = items_on c.args.table.now.text c.args.node.rule c.args.item c.args.depth c.args.node.start c.args.node.end c.requires.row c.loop-end.at c.in-Some.end _ c.loop-end.invariant.0 c.in-Some.ensures.right in
    omega (arith, on.0, on.1)

pub loop-end-preserved : goal.loop-end-preserved
loop-end-preserved c = (
  one_item c.args.table.now.text c.args.node.rule c.args.item c.args.depth c.args.node.start c.args.node.end c.requires.row c.loop-end.at c.in-Some.end _ _ c.in_ok-push.ensures.items c.loop-end.invariant.0 c.in-Some.ensures.right,
  wanted_again c.args.table.now c.args.node.rule c.args.item c.loop-end.at c.args.node.end c.in-Some.end c.requires.row c.loop-end.invariant.1 c.loop-end.invariant.0.left (it_ends c.in-Some.ensures.right),
)

pub returns : goal.returns
returns c = items_end c.args.table.now.text c.args.node.rule c.args.item c.args.depth c.args.node.start c.args.node.end c.requires.row c.loop-end.at _ c.loop-end.invariant.0 c.in_default.ensures.right

use Rattle.std.proofs.Common.{inl, arith}
use Rattle.weedle_syntax.proofs.TurnFacts.{turn_inside}
use Rattle.weedle_syntax.proofs.LayFacts.{if_parts, if_gave, switch_inside, if_there, if_stuck, if_absent}
use Rattle.weedle_syntax.proofs.WantedFacts.{wanted_by, wanted_last}
use Rattle.weedle_syntax.proofs.walk.parts.conditional.Goals as goal

pub in_turn-requires-clause-reads : goal.in_turn-requires-clause-reads
in_turn-requires-clause-reads c = if_parts c.args.table.now.text c.args.node.rule c.args.depth c.args.node.start c.args.node.end c.requires.row c.requires.reads c.requires.low

pub in_turn-requires-clause-tried : goal.in_turn-requires-clause-tried
in_turn-requires-clause-tried c = λ x q t. wanted_by c.requires.wanted c.requires.reads c.requires.row (inl t)

pub index-switch-requires : goal.index-switch-requires
index-switch-requires c = omega (arith, switch_inside c.args.table.now.text c.args.node.rule c.args.depth c.args.node.start c.args.node.end c.requires.row c.requires.reads c.requires.low c.in_ok-at.at _ c.in_ok-at.ensures, c.in_turn.new.inner.ok.0)

pub end-requires-clause-within : goal.end-requires-clause-within
end-requires-clause-within c = turn_inside c.args.table.now.text _ _ _ _ _ c.in_ok-at.ensures c.requires.within

pub end-requires-clause-wanted : goal.end-requires-clause-wanted
end-requires-clause-wanted c =
    let gave = if_gave c.args.table.now.text c.args.node.rule c.args.depth c.args.node.start c.args.node.end c.requires.row c.requires.reads c.requires.low c.in_ok-at.at _ c.index-switch.result.now c.in_ok-at.ensures c.index-switch.ensures c.if-switch.true in
    wanted_last c.args.table.now c.args.node.rule c.args.depth c.args.node.start c.args.node.end c.in_ok-at.at _ c.requires.row c.requires.wanted c.requires.reads gave c.in_ok-at.ensures

pub returns-in_ok-push-in-Some : goal.returns-in_ok-push-in-Some
returns-in_ok-push-in-Some c = if_there c.args.table.now.text c.args.node.rule c.args.depth c.args.node.start c.args.node.end c.requires.row c.requires.reads c.requires.low c.in_ok-at.at c.in-Some.end _ _ c.index-switch.result.now c.in_ok-at.ensures c.index-switch.ensures c.if-switch.true c.in_ok-push-in-Some.ensures.items c.in-Some.ensures.right

pub returns-in-None : goal.returns-in-None
returns-in-None c = if_stuck c.args.table.now.text c.args.node.rule c.args.depth c.args.node.start c.args.node.end c.requires.row c.requires.reads c.requires.low c.in_ok-at.at _ c.index-switch.result.now c.in_ok-at.ensures c.index-switch.ensures c.if-switch.true c.in-None.ensures.right

pub returns-else-switch : goal.returns-else-switch
returns-else-switch c = if_absent c.args.table.now.text c.args.node.rule c.args.depth c.args.node.start c.args.node.end c.requires.row c.requires.reads c.requires.low c.in_ok-at.at _ c.index-switch.result.now c.in_ok-at.ensures c.index-switch.ensures c.if-switch.false

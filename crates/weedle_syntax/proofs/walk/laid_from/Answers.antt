use Rattle.std.proofs.Common.{rules, refl}
use Rattle.weedle_memo.specs.Wanted.{at_first}
use Rattle.weedle_syntax.specs.Laid.{node}
use Rattle.weedle_syntax.proofs.SyntaxFacts.{popped, set_out, goes_on, less_left, none_left, finish, finish_trees, top_waits}
use Rattle.weedle_syntax.proofs.WantedFacts.{root_asked, top_asked, piled_asked}
use Rattle.weedle_syntax.proofs.walk.laid_from.Goals as goal

pub loop-node-init : goal.loop-node-init
loop-node-init c =
    let rule = c.rule.ensures in
    let place = c.place.ensures in (
      set_out c.args.table.now.text (node c.args.table.now.start.rule c.args.table.now.start.place c.args.end 0) _ _ _ _ c.new-nodes.ensures.items c.new-waiting.ensures.items c.in_ok-push.ensures.items (rw (rule, place) refl) (rw (← rule) (search rules)) c.requires.within c.requires.reads refl,
      c.new-inner.ensures.items,
      root_asked c.args.table.now _ _ _ c.new-waiting.ensures.items c.in_ok-push.ensures.items (at_first (rule, place)),
    )

pub go_on-requires-clause-wanted : goal.go_on-requires-clause-wanted
go_on-requires-clause-wanted c =
    let top = popped _ _ _ c.in-Some.node c.pop.ensures.items c.in-Some.is in
    top_asked c.args.table.now _ _ c.in-Some.node top c.loop-node.invariant.2

pub loop-node-smaller : goal.loop-node-smaller
loop-node-smaller c =
    let top = popped _ _ _ c.in-Some.node c.pop.ensures.items c.in-Some.is in
    let piled = c.in_ok-go_on.ensures.piled in
    less_left c.args.table.now.text (node c.args.table.now.start.rule c.args.table.now.start.place c.args.end 0) c.loop-node.nodes.items _ _ c.in-Some.node top c.loop-node.invariant.0 piled.0 c.go_on.new.waiting.items piled.1 piled.2

pub loop-node-preserved : goal.loop-node-preserved
loop-node-preserved c =
    let top = popped _ _ _ c.in-Some.node c.pop.ensures.items c.in-Some.is in
    let piled = c.in_ok-go_on.ensures.piled in
    let waits = top_waits c.args.table.now.text (node c.args.table.now.start.rule c.args.table.now.start.place c.args.end 0) c.loop-node.nodes.items _ _ c.in-Some.node top c.loop-node.invariant.0 in (
      goes_on c.args.table.now.text (node c.args.table.now.start.rule c.args.table.now.start.place c.args.end 0) c.loop-node.nodes.items _ _ c.in-Some.node top c.loop-node.invariant.0 piled.0 c.go_on.new.waiting.items piled.1 piled.2 c.go_on.new.nodes.items c.in_ok-go_on.ensures.found,
      c.in_ok-go_on.ensures.empty,
      piled_asked c.args.table.now _ _ c.in-Some.node top c.loop-node.invariant.2 piled.0 c.go_on.new.waiting.items waits.reads piled.1 piled.2,
    )

pub returns : goal.returns
returns c =
    let none = none_left c.loop-node.waiting.items c.loop-node.waiting.len c.loop-node.waiting.ok.0 c.in_default.ensures.cases.0 in
    let root = node c.args.table.now.start.rule c.args.table.now.start.place c.args.end 0 in
    finish_trees c.args.table.now.text root c.loop-node.nodes.items (finish c.args.table.now.text root c.loop-node.nodes.items _ none c.loop-node.invariant.0)

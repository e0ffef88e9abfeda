use Rattle.weedle_grammar.specs.written.Table.Definitions.{DEFINITIONS}
use Rattle.weedle_rules.specs.Outcomes.{FailsAt}
use Rattle.weedle_syntax.proofs.MemoFacts.{never_refused}
use Rattle.weedle_syntax.proofs.on_demand.front_on_demand.Goals as goal

pub unreachable-requires : goal.unreachable-requires
unreachable-requires c =
    let fails : FailsAt c.args.raw.now DEFINITIONS 0 = rw c.in-None.is at c.in_ok-nodes.ensures.fails in
    never_refused c.args.raw.now 0 fails

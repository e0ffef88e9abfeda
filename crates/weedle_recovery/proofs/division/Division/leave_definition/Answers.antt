use Rattle.std.proofs.Common.{sym, subst}
use Rattle.weedle_rules.specs.Outcomes.{FailsAt}
use Rattle.weedle_recovery.specs.Recovery.{of_definition}
use Rattle.weedle_recovery.proofs.division.Division.leave_definition.Goals as goal

pub leave-requires-clause-fails : goal.leave-requires-clause-fails
leave-requires-clause-fails c = subst (λ r. FailsAt c.args.text.now.text r c.args.start) (sym c.definition.ensures) c.requires.fails

pub leave-requires-clause-passed : goal.leave-requires-clause-passed
leave-requires-clause-passed c = of_definition c.requires.passes

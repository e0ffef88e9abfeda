use Rattle.std.proofs.Common.{sym, subst}
use Rattle.weedle_recovery.specs.Recovery.{DefinitionPasses}
use Rattle.weedle_recovery.proofs.division.Division.leave_front.Goals as goal

pub leave_definition-requires-clause-passes : goal.leave_definition-requires-clause-passes
leave_definition-requires-clause-passes c =
    subst (λ d. DefinitionPasses c.args.text.now.dialect c.args.text.now.text d c.args.end) (sym c.requires.definition) c.requires.passes

use Rattle.weedle_base.proofs.NameFacts.{identifier_reads, no_identifier}
use Rattle.weedle_base.proofs.names.identifier.Goals as goal

pub returns-in_err-rest : goal.returns-in_err-rest
returns-in_err-rest c =
    let e = c.from_residual.ensures in rw e (no_identifier c.skip_trivia-start.ensures c.skip_underscore-name.ensures c.in_err-rest.ensures)

pub returns : goal.returns
returns c = identifier_reads c.skip_trivia-start.ensures c.skip_underscore-name.ensures c.in_ok-rest.ensures c.skip_trivia.ensures

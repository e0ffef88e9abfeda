use Rattle.weedle_formatter.proofs.LawFacts.{joined}
use Rattle.weedle_formatter.proofs.laws.is_transitive_in.Goals as goal

pub returns : goal.returns
returns c = joined

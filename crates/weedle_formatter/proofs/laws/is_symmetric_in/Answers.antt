use Rattle.weedle_formatter.proofs.LawFacts.{turned}
use Rattle.weedle_formatter.proofs.laws.is_symmetric_in.Goals as goal

pub returns : goal.returns
returns c = turned

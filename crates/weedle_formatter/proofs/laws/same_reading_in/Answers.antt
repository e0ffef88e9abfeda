use Rattle.weedle_formatter.proofs.ReadingFacts.{same_reading}
use Rattle.weedle_formatter.proofs.laws.same_reading_in.Goals as goal

pub returns : goal.returns
returns c = same_reading

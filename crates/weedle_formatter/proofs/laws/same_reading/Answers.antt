use Rattle.weedle_syntax.specs.declared.dialect.Dialect.TheVariants.{Weedle2}
use Rattle.weedle_formatter.proofs.ReadingFacts.{same_reading}
use Rattle.weedle_formatter.proofs.laws.same_reading.Goals as goal

pub returns : goal.returns
returns c = same_reading Weedle2

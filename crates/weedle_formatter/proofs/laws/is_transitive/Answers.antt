use Rattle.weedle_syntax.specs.declared.dialect.Dialect.TheVariants.{Weedle2}
use Rattle.weedle_formatter.proofs.LawFacts.{joined}
use Rattle.weedle_formatter.proofs.laws.is_transitive.Goals as goal

pub returns : goal.returns
returns c = joined Weedle2

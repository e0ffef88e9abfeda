use Rattle.weedle_syntax.specs.declared.dialect.Dialect.TheVariants.{Weedle2}
use Rattle.weedle_formatter.proofs.LawFacts.{turned}
use Rattle.weedle_formatter.proofs.laws.is_symmetric.Goals as goal

pub returns : goal.returns
returns c = turned Weedle2

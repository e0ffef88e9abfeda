use Rattle.weedle_syntax.specs.declared.dialect.Dialect.TheVariants.{Weedle2}
use Rattle.weedle_formatter.proofs.ReadingFacts.{read_as_itself}
use Rattle.weedle_formatter.proofs.formatter.format.Goals as goal

pub returns-clause-trees : goal.returns-clause-trees
returns-clause-trees c = read_as_itself Weedle2 _ _ c.in_ok-text-2.ensures.ok

use Rattle.weedle_syntax.specs.declared.dialect.Dialect.TheVariants.{Weedle2}
use Rattle.weedle_formatter.proofs.LawFacts.{all_nodes}
use Rattle.weedle_formatter.proofs.laws.all_nodes_say_the_same.Goals as goal

pub returns : goal.returns
returns c = all_nodes Weedle2

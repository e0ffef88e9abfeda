use Rattle.weedle_formatter.proofs.ReadingFacts.{read_as_itself}
use Rattle.weedle_formatter.proofs.formatter.format_in.Goals as goal

pub returns-clause-trees : goal.returns-clause-trees
returns-clause-trees c = read_as_itself c.args.dialect _ _ c.in_ok-text.ensures.ok

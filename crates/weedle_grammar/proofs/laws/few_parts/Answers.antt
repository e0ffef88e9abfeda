use Rattle.weedle_grammar.proofs.Size.{few_parts}
use Rattle.weedle_grammar.proofs.laws.few_parts.Goals as goal

pub returns : goal.returns
returns c = few_parts

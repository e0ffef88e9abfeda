use Rattle.weedle_grammar.proofs.Size.{bounded}
use Rattle.weedle_grammar.proofs.laws.bounded.Goals as goal

pub returns : goal.returns
returns c = bounded

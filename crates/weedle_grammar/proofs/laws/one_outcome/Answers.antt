use Rattle.weedle_grammar.proofs.GrammarFacts.{one}
use Rattle.weedle_grammar.proofs.laws.one_outcome.Goals as goal

pub returns : goal.returns
returns c = one

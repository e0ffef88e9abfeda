use Rattle.weedle_grammar.proofs.GrammarFacts.{shifted}
use Rattle.weedle_grammar.proofs.laws.shift.Goals as goal

pub returns : goal.returns
returns c text r p h = shifted text r p

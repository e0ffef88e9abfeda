use Rattle.weedle_grammar.proofs.GrammarFacts.{at_boundary}
use Rattle.weedle_grammar.proofs.laws.boundary.Goals as goal

pub returns : goal.returns
returns c = at_boundary

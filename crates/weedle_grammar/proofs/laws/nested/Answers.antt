use Rattle.weedle_grammar.proofs.Nesting.{nested}
use Rattle.weedle_grammar.proofs.laws.nested.Goals as goal

pub returns : goal.returns
returns c = nested

use Rattle.weedle_grammar.proofs.Nesting.{one_at_start}
use Rattle.weedle_grammar.proofs.laws.one_at_start.Goals as goal

pub returns : goal.returns
returns c = one_at_start

use Rattle.weedle_grammar.proofs.Size.{small_where_empty}
use Rattle.weedle_grammar.proofs.laws.small_where_empty.Goals as goal

pub returns : goal.returns
returns c = small_where_empty

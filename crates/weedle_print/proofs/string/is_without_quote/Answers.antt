use Rattle.weedle_print.proofs.LeafFacts.{no_quote}
use Rattle.weedle_print.proofs.string.is_without_quote.Goals as goal

-- no quote was found
pub returns-in-None : goal.returns-in-None
returns-in-None c = λ t. no_quote _ (rw c.as_bytes.ensures.value at c.in-None.ensures)

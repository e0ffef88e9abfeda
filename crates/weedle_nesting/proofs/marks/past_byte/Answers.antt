use Rattle.weedle_grammar.proofs.FirstPlace.{found_byte, nowhere_byte}
use Rattle.weedle_nesting.proofs.MarkFacts.{slice_behind}
use Rattle.weedle_nesting.proofs.marks.past_byte.Goals as goal

pub returns-in-Some : goal.returns-in-Some
returns-in-Some c = rw (slice_behind, found_byte _ _ _ c.in-Some.ensures)

pub returns-in-None : goal.returns-in-None
returns-in-None c = rw (nowhere_byte _ _ c.in-None.ensures)

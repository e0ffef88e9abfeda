use Rattle.weedle_grammar.proofs.FirstPlace.{found_past, nowhere_past}
use Rattle.weedle_nesting.proofs.MarkFacts.{slice_behind}
use Rattle.weedle_nesting.proofs.marks.past_block.Goals as goal

pub returns-in-Some : goal.returns-in-Some
returns-in-Some c = rw (slice_behind, found_past _ _ _ c.in-Some.ensures)

pub returns-in-None : goal.returns-in-None
returns-in-None c = rw (nowhere_past _ _ c.in-None.ensures)

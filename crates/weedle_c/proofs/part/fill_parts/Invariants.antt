use Rattle.weedle_c.proofs.PartFacts.{ArePlaced}
use Rattle.weedle_c.proofs.part.fill_parts.Given as goal

-- the parts so far are in the room
abbrev pub invariant-loop-at : goal.invariant-loop-at
invariant-loop-at l = ArePlaced l.found l.initial.room l.room l.at

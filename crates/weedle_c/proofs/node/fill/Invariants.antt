use Rattle.weedle_c.proofs.FillFacts.{IsFilled}
use Rattle.weedle_c.proofs.node.fill.Given as goal

-- the nodes so far are in the room
abbrev pub invariant-loop-at : goal.invariant-loop-at
invariant-loop-at l = IsFilled l.found l.initial.room l.room l.at

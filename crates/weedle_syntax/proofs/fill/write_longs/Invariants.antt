use Rattle.weedle_syntax.proofs.FillFacts.{IsWriting}
use Rattle.weedle_syntax.proofs.fill.write_longs.Given as goal

-- the nodes so far stand in the room
abbrev pub invariant-loop-i : goal.invariant-loop-i
invariant-loop-i g l = IsWriting g.T.FromNode.of l.at l.longs l.fn.room l.room l.i

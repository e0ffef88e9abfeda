use Rattle.std.proofs.Common.{map}
use Rattle.weedle_syntax.proofs.FillFacts.{IsWriting}
use Rattle.weedle_syntax.specs.Compact.{node_of}
use Rattle.weedle_syntax.proofs.fill.write_shorts.Given as goal

-- the nodes so far stand in the room
abbrev pub invariant-loop-i : goal.invariant-loop-i
invariant-loop-i g l = IsWriting g.T.FromNode.of l.at (map (node_of l.base) l.shorts) l.fn.room l.room l.i

use Rattle.weedle_syntax.proofs.FillFacts.{AreWritten}
use Rattle.weedle_syntax.proofs.compact.Compact.write_to.Given as goal

-- the root and the runs so far stand in the room
abbrev pub invariant-loop-run : goal.invariant-loop-run
invariant-loop-run g l =
    AreWritten g.T.FromNode.of l.self-inside.root l.self-inside.below.shorts.items l.self-inside.below.longs.items l.self-inside.below.runs.items l.fn.room l.room l.at l.run-index

use Rattle.std.proofs.Common.{◌≤◌, length}
use Rattle.weedle_syntax.specs.Tree.{AreCounts}
use Rattle.weedle_syntax.proofs.below.count_below.Given as goal

abbrev pub invariant-loop-i : goal.invariant-loop-i
invariant-loop-i l = AreCounts l.nodes l.below.items l.i × (l.i ≤ length l.nodes)

abbrev pub decreases-loop-i : goal.decreases-loop-i
decreases-loop-i l = l.i

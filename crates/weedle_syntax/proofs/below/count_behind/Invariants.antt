use Rattle.std.proofs.Common.{◌-◌, length}
use Rattle.weedle_syntax.proofs.BelowFacts.{Hopping}
use Rattle.weedle_syntax.proofs.below.count_behind.Given as goal

abbrev pub invariant-loop-next : goal.invariant-loop-next
invariant-loop-next l = Hopping l.nodes l.fn.i l.next

abbrev pub decreases-loop-next : goal.decreases-loop-next
decreases-loop-next l = length l.nodes - l.next

use Rattle.weedle_refusal.proofs.FurthestCellFacts.{NoneYet}
use Rattle.weedle_refusal.proofs.diagnose.unmet.furthest_place.Given as goal
use Rattle.std.proofs.Common.{◌-◌, ◌*◌, length}

abbrev pub invariant-loop-cell : goal.invariant-loop-cell
invariant-loop-cell l = NoneYet l.ends.text l.fn.start l.fn.last l.cell

abbrev pub decreases-loop-cell : goal.decreases-loop-cell
decreases-loop-cell l = 64 * length l.marks - l.cell

use Rattle.std.proofs.Common.{◌≤◌, ◌*◌}
use Rattle.weedle_refusal.specs.Marks.{IsClear}
use Rattle.weedle_refusal.proofs.diagnose.marks.behind_marks.Given as goal

abbrev pub invariant-loop-left : goal.invariant-loop-left
invariant-loop-left l = (l.left ≤ l.fn.words) × IsClear l.marks (64 * l.left) (64 * l.fn.words)

abbrev pub decreases-loop-left : goal.decreases-loop-left
decreases-loop-left l = l.left

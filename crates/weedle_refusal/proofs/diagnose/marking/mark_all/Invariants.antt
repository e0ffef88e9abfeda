use Rattle.std.proofs.Common.{◌≤◌, ◌*◌, length}
use Rattle.weedle_refusal.specs.Marks.{IsMarking}
use Rattle.weedle_refusal.proofs.diagnose.marking.mark_all.Given as goal

abbrev pub invariant-loop-left : goal.invariant-loop-left
invariant-loop-left l =
    (l.left ≤ 64 * length l.marks) × IsMarking l.ends.text l.fn.start l.marks l.left

abbrev pub decreases-loop-left : goal.decreases-loop-left
decreases-loop-left l = l.left

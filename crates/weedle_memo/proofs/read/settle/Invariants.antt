use Rattle.std.proofs.Common.{◌≡◌, ◌≤◌, reverse, length}
use Rattle.weedle_memo.specs.Closure.{memory_of, SameText, AreClosed}
use Rattle.weedle_memo.specs.Frames.{IsState, weight}
use Rattle.weedle_memo.proofs.read.settle.Given as goal

abbrev pub invariant-steps : goal.invariant-steps
invariant-steps l =
    SameText l.fn.reader l.reader × IsState l.reader.text (memory_of l.reader) (reverse l.waiting.items) l.frame l.step × AreClosed l.reader.text (memory_of l.reader) × (length l.fn.reader.known ≤ length l.reader.known)

abbrev pub decreases-steps : goal.decreases-steps
decreases-steps l = weight l.fn.reader.text l.frame

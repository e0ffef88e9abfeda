use Rattle.std.proofs.Common.{◌≡◌, ℕ, ◌<◌, false, get_or}
use Rattle.weedle_nesting.specs.Marks.{is_mark}
use Rattle.weedle_nesting.proofs.marks.next_mark.Given as goal

abbrev pub invariant-loop-i : goal.invariant-loop-i
invariant-loop-i l = (k : ℕ) → k < l.i → is_mark (get_or l.bytes k 0) ≡ false

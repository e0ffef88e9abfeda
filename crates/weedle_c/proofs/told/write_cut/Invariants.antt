use Rattle.std.proofs.Common.{◌≡◌, ◌≤◌, ◌<◌, length}
use Rattle.weedle_c.proofs.told.write_cut.Given as goal

-- the end lies in the message, there is room for the zero behind it, and it is the message's where that fits
abbrev pub invariant-loop-end : goal.invariant-loop-end
invariant-loop-end l = (l.end ≤ length l.said) × (l.end < length l.room) × (length l.said < length l.room → l.end ≡ length l.said)

abbrev pub decreases-loop-end : goal.decreases-loop-end
decreases-loop-end l = l.end

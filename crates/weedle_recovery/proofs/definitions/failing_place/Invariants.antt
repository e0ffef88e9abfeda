use Rattle.std.proofs.Common.{length, ◌≤◌}
use Rattle.weedle_recovery.proofs.definitions.failing_place.Given as goal

-- the place is one of the text, and no more steps are left than before
abbrev pub invariant-loop-number : goal.invariant-loop-number
invariant-loop-number l = (l.at ≤ length l.text.text) × (l.limits.steps ≤ l.fn.limits.steps)

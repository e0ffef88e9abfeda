use Rattle.std.proofs.Common.{◌≤◌}
use Rattle.weedle_recovery.proofs.definitions.member_at.Given as goal

-- no more steps are left than before
abbrev pub invariant-loop-member : goal.invariant-loop-member
invariant-loop-member l = l.limits.steps ≤ l.fn.limits.steps

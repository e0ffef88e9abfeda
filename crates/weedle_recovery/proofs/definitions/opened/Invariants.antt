use Rattle.std.proofs.Common.{◌≤◌}
use Rattle.weedle_recovery.proofs.definitions.opened.Given as goal

-- no more steps are left than before
abbrev pub invariant-loop-definition : goal.invariant-loop-definition
invariant-loop-definition l = l.limits.steps ≤ l.fn.limits.steps

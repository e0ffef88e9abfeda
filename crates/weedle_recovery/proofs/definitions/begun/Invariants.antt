use Rattle.std.proofs.Common.{◌≤◌}
use Rattle.weedle_recovery.specs.Dialects.{beginnings_of}
use Rattle.weedle_recovery.proofs.StopFacts.{AreLeft}
use Rattle.weedle_recovery.proofs.definitions.begun.Given as goal

-- the definitions of smaller numbers don't begin here, and there is one of each of these numbers
abbrev pub invariant-loop-number : goal.invariant-loop-number
invariant-loop-number l = AreLeft l.text.dialect l.text.text l.place (beginnings_of l.text.dialect) l.number × (l.limits.steps ≤ l.fn.limits.steps)

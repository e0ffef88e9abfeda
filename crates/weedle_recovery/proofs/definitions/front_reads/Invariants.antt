use Rattle.std.proofs.Common.{length, ◌≤◌, take}
use Rattle.weedle_recovery.specs.Dialects.{parts_of}
use Rattle.weedle_recovery.specs.Stops.{AreRead}
use Rattle.weedle_recovery.proofs.definitions.front_reads.Given as goal

-- the parts so far are read up to here
abbrev pub invariant-loop-number : goal.invariant-loop-number
invariant-loop-number l =
    (l.at ≤ length l.text.text) × AreRead l.text.text (take l.number (parts_of l.text.dialect l.fn.definition)) l.place l.at × (l.limits.steps ≤ l.fn.limits.steps)

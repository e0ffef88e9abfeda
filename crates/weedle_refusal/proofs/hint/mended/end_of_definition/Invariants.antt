use Rattle.std.proofs.Common.{length, ◌-◌, ◌≤◌}
use Rattle.weedle_refusal.proofs.hint.mended.end_of_definition.Given as goal

-- the place is one of the text
abbrev pub invariant-loop-token : goal.invariant-loop-token
invariant-loop-token l = l.at ≤ length l.raw

abbrev pub decreases-loop-token : goal.decreases-loop-token
decreases-loop-token l = length l.raw - l.at

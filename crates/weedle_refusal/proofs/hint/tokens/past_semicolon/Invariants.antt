use Rattle.std.proofs.Common.{length, ◌-◌, ◌≤◌}
use Rattle.weedle_refusal.proofs.hint.tokens.past_semicolon.Given as goal

-- the place is one of the text, and no earlier than the first
abbrev pub invariant-loop-token : goal.invariant-loop-token
invariant-loop-token l = (l.at ≤ l.end) × (l.end ≤ length l.raw)

abbrev pub decreases-loop-token : goal.decreases-loop-token
decreases-loop-token l = length l.raw - l.end

use Rattle.std.proofs.Common.{ℕ, length, ◌≤◌, ◌<◌, ◌-◌}
use Rattle.weedle_recovery.specs.Stops.{StopsAt, PassesTo}
use Rattle.weedle_recovery.proofs.stops.stop_behind.Given as goal

-- the token is in the text, and its line begins behind the place; where it stops, the part ends
abbrev pub invariant-loop-token : goal.invariant-loop-token
invariant-loop-token l =
    (l.token.at ≤ length l.text.text) × (l.place < l.token.line) × (l.token.line ≤ l.token.at) × (l.token.depth ≤ l.token.at)
    × ((e : ℕ) → StopsAt l.text.dialect l.text.text l.goal l.token e → PassesTo l.text.dialect l.text.text l.goal l.place e) × (l.limits.steps ≤ l.fn.limits.steps)

abbrev pub decreases-loop-token : goal.decreases-loop-token
decreases-loop-token l = length l.text.text - l.token.at

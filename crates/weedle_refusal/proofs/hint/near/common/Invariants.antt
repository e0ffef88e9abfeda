use Rattle.std.proofs.Common.{length, take, ◌≡◌, ◌-◌, ◌≤◌}
use Rattle.weedle_refusal.proofs.hint.near.common.Given as goal

-- both words have so many bytes, and the same ones
abbrev pub invariant-loop-same : goal.invariant-loop-same
invariant-loop-same l = (l.same ≤ length l.word) × (l.same ≤ length l.other) × (take l.same l.word ≡ take l.same l.other)

abbrev pub decreases-loop-same : goal.decreases-loop-same
decreases-loop-same l = length l.word - l.same

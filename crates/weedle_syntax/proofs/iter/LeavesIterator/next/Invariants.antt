use Rattle.std.proofs.Common.{◌≡◌, ℕ, ◌<◌, ◌≤◌, ◌==◌, false, slice_index}
use Rattle.weedle_syntax.proofs.iter.LeavesIterator.next.Given as goal

-- only nodes with some below them were passed over
abbrev pub invariant-loop-node : goal.invariant-loop-node
invariant-loop-node l =
    (l.self-inside.below.now ≡ l.initial.self-inside.below.now)
    × ((k : ℕ) → l.initial.self-inside.next ≤ k → k < l.node → (slice_index l.self-inside.below.now k == 0) ≡ false)

use Rattle.std.proofs.Common.{ℕ, ◌<◌, ◌≤◌}
use Rattle.weedle_places.specs.Around.{IsSolid}
use Rattle.weedle_places.proofs.around.first_solid.Given as goal

-- none so far
abbrev pub invariant-loop-i : goal.invariant-loop-i
invariant-loop-i l = (j : ℕ) → l.fn.from ≤ j → j < l.i → IsSolid l.syntax.nodes j → ⊥

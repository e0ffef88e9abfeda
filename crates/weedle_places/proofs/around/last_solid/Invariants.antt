use Rattle.std.proofs.Common.{ℕ, ◌<◌, ◌≤◌}
use Rattle.weedle_places.specs.Around.{IsSolid}
use Rattle.weedle_places.proofs.around.last_solid.Given as goal

-- none from here on
abbrev pub invariant-loop-i : goal.invariant-loop-i
invariant-loop-i l = record { within : l.i ≤ l.fn.end; none : (j : ℕ) → l.i ≤ j → j < l.fn.end → IsSolid l.syntax.nodes j → ⊥ }

abbrev pub decreases-loop-i : goal.decreases-loop-i
decreases-loop-i l = l.i

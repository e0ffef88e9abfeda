-- The items that a rule reads one behind another.
use Rattle.std.specs.Prelude.{◌≡◌, ℕ, List, [], ◌∷◌}
use Rattle.weedle_rules.specs.Outcomes.{EndsAt, FailsAt}
use Rattle.weedle_places.specs.declared.span.Span.{Span}

-- what rule y reads from p on: each span begins where the one before ends, and where the last ends the rule fails
abbrev pub AreItems : List ℕ → ℕ → ℕ → List Span → Type 0
AreItems text y p [] = FailsAt text y p
AreItems text y p (s ∷ ss) = (s.start ≡ p) × EndsAt text y p s.end × AreItems text y s.end ss

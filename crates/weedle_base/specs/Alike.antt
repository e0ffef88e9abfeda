-- When values are alike.
use Rattle.std.specs.Prelude.{List, [], ◌∷◌, Option, Some, None}

-- being alike is an equivalence
pub record IsEquivalence {V : Type 0} (alike : V → V → Type 0) : Type 0 where
  -- each value is alike itself
  pub same : (v : V) → alike v v
  -- two values are alike either way round
  pub back : (v w : V) → alike v w → alike w v
  -- values that are alike a third are alike each other
  pub along : (u v w : V) → alike u v → alike v w → alike u w

-- options are alike where both are absent, or both hold values that are alike
abbrev pub option_alike : {V : Type 0} → (V → V → Type 0) → Option V → Option V → Type 0
option_alike alike (Some v) (Some w) = alike v w
option_alike alike (Some v) None = ⊥
option_alike alike None (Some w) = ⊥
option_alike alike None None = Unit {0}

-- lists are alike where they are as long as one another and their items are alike
abbrev pub all_alike : {V : Type 0} → (V → V → Type 0) → List V → List V → Type 0
all_alike alike [] [] = Unit {0}
all_alike alike [] (w ∷ ws) = ⊥
all_alike alike (v ∷ vs) [] = ⊥
all_alike alike (v ∷ vs) (w ∷ ws) = alike v w × all_alike alike vs ws

-- Which ASCII bytes a rule can begin with, as the bits of a word.
use Rattle.std.specs.Prelude.{◌≡◌, ◌<◌, ℕ, List, ◌∷◌, drop}
use Rattle.std.specs.Int.{bit_at}
use Rattle.weedle_rules.specs.Outcomes.{FailsAt}
use Rattle.weedle_starts.specs.Tries.{TriesHere}

-- where the word lacks the bit of the byte at p, rule r fails there, and all that it tries is tried
-- there
abbrev pub CoversStarts : ℕ → ℕ → Type 0
CoversStarts word r = (text : List ℕ) (p b : ℕ) (rest : List ℕ) → drop p text ≡ b ∷ rest → b < 128 → (bit_at word b ≡ 1 → ⊥) → FailsAt text r p × TriesHere text r p

-- What a call puts at the end of a text.
use Rattle.std.specs.Prelude.{◌≡◌, ℕ, List, ◌++◌}
use Rattle.weedle_spell.specs.Forms.{Form}

-- behind what was before, a text of the form was put, and nothing else
pub record Adds (A : Form) (before after : List ℕ) : Type 0 where
  -- what was put there
  pub added : List ℕ
  pub is : after ≡ before ++ added
  pub of : A added

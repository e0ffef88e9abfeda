-- A tag at the front of a text.
use Rattle.std.specs.Prelude.{◌≡◌, ℕ, List, ◌++◌, false}
use Rattle.weedle_grammar.specs.declared.class.Class.TheVariants.{Name}
use Rattle.weedle_grammar.specs.Trivia.{is_next}

-- the text begins with the tag as a whole word, and this rest follows
pub record IsTagged (tag text rest : List ℕ) : Type 0 where
  -- the text is the tag and the rest
  pub split : text ≡ tag ++ rest
  -- the remaining input begins with no name character
  pub ends : is_next Name rest ≡ false

-- the tag isn't at the front of the text, or a name character follows it
abbrev pub LacksTag : List ℕ → List ℕ → Type 0
LacksTag tag text = (rest : List ℕ) → IsTagged tag text rest → ⊥

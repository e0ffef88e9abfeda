-- A text whose definitions are written anew, and read again as equal ones.
use Rattle.std.specs.Cmp.Lexicographic.{pointwise}
use Rattle.std.specs.Global.{Global}
use Rattle.std.specs.Prelude.{ℕ, Bool, IsTrue, List, Option, Some, None, String, string_bytes}
use Rattle.weedle_front.specs.Whole.{IsWhole}
use Rattle.weedle_idl.specs.declared.definition.Definition.{Definition}
use Rattle.weedle_spell_idl.specs.written.Definitions.{definitions_spelling}

-- `equal` is the test of two definitions, `==` of Rust
module _ (equal : Definition → Definition → Bool) where
  -- the grammar reads the whole of `written` as definitions that equal these, each its own
  pub record IsReadAgain (definitions : List Definition) (written : List ℕ) : Type 0 where
    pub again : List Definition
    pub reads : IsWhole written again
    pub same : IsTrue (pointwise equal definitions again)

  -- the grammar reads the whole text as definitions, and what is written says them and is read as equal ones
  pub record IsWrittenAnew (raw written : List ℕ) : Type 0 where
    pub definitions : List Definition
    pub reads : IsWhole raw definitions
    pub spells : definitions_spelling definitions written
    pub read_again : IsReadAgain definitions written

  -- None where the grammar doesn't read the whole text
  abbrev pub WritesAnew : List ℕ → Option (String Global) → Type 0
  WritesAnew raw (Some written) = IsWrittenAnew raw (string_bytes written)
  WritesAnew raw None = (definitions : List Definition) → ¬ IsWhole raw definitions

-- The furthest place at which something that is tried fails, and what fails there.
use Rattle.std.specs.Prelude.{◌≡◌, ◌↔◌, ◌≤◌, ◌<◌, ℕ, List, true, length, slice_index, IsUtf8, IsCharBoundary}
use Rattle.std.specs.List.{Contains}
use Rattle.weedle_grammar.specs.written.Table.{row_of}
use Rattle.weedle_grammar.specs.written.Table.TodayDefinitions.{TODAY_DEFINITIONS}
use Rattle.weedle_rules.specs.Outcomes.{FailsAt}
use Rattle.weedle_starts.specs.Tries.{Leads, IsUnmet, has_no_parts}
use Rattle.weedle_syntax.specs.declared.dialect.Dialect.{Dialect}
use Rattle.weedle_syntax.specs.declared.dialect.Dialect.TheVariants.{Weedle2, Today}

-- each number is greater than those before it
abbrev pub IsRising : List ℕ → Type 0
IsRising xs = (i j : ℕ) → i < j → j < length xs → slice_index xs i < slice_index xs j

-- where rule r is read at p, rule x is tried at q; it has no parts and fails there
pub record IsUnmetIn (text : List ℕ) (r p x q : ℕ) : Type 0 where
  pub plain : has_no_parts (row_of x) ≡ true
  pub tried : Leads text x q r p
  pub fails : FailsAt text x q

-- rule r is unmet at p, where the dialect's rule of a whole text is read at `start`
abbrev pub IsUnmetBy : Dialect → List ℕ → ℕ → ℕ → ℕ → Type 0
IsUnmetBy Weedle2 text start r p = IsUnmet text start r p
IsUnmetBy Today text start r p = IsUnmetIn text TODAY_DEFINITIONS start r p

-- of definitions that are read by the dialect's rules from `start` on: where they come furthest, and what is expected there
pub record IsDiagnosisIn (dialect : Dialect) (text : List ℕ) (start place : ℕ) (expected : List ℕ) : Type 0 where
  -- something is unmet at the place, and nothing further on
  pub some : (r : ℕ) × IsUnmetBy dialect text start r place
  pub furthest : (r p : ℕ) → IsUnmetBy dialect text start r p → p ≤ place
  -- expected is exactly what is unmet there, each rule once, in the order of the numbers
  pub exact : (r : ℕ) → Contains expected r ↔ IsUnmetBy dialect text start r place
  pub rising : IsRising expected
  -- a character begins at the place, or the text ends there, if so it is at the start
  pub boundary : IsUtf8 text → IsCharBoundary text start → IsCharBoundary text place

-- by weedle2's rules
abbrev pub IsDiagnosis : List ℕ → ℕ → ℕ → List ℕ → Type 0
IsDiagnosis text start place expected = IsDiagnosisIn Weedle2 text start place expected

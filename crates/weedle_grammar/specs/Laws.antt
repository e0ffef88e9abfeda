-- The laws of the grammar's meaning.
use Rattle.std.specs.Prelude.{◌≡◌, ◌↔◌, ℕ, List, drop, IsCharBoundary}
use Rattle.weedle_grammar.specs.Trees.{Tree, Outcome, Gives}
use Rattle.weedle_grammar.specs.Meaning.{moved}
use Rattle.weedle_grammar.specs.written.Table.{Reads}

-- each rule has exactly one outcome at each place
abbrev pub HasOneOutcome : List ℕ → ℕ → ℕ → Type 0
HasOneOutcome text r p = (o : Outcome) × Reads text r p o × ((other : Outcome) → Reads text r p other → other ≡ o)

-- what a rule does at a boundary, it does at the front of the text from there, except for where its
-- end lies
abbrev pub IsShifted : List ℕ → ℕ → ℕ → Type 0
IsShifted text r p = (o : Outcome) → Reads (drop p text) r 0 o ↔ Reads text r p (moved p o)

-- where the rule ends, a character begins
abbrev pub EndsAtBoundary : List ℕ → ℕ → ℕ → Type 0
EndsAtBoundary text r p = (ts : List Tree) (end : ℕ) → Reads text r p (Gives ts end) → IsCharBoundary text end

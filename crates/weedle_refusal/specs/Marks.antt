-- Marks of rules at places: a bit for each, in the order in which a packrat table is filled.
use Rattle.std.specs.Prelude.{◌≡◌, ◌⊎◌, ◌↔◌, ◌≤◌, ◌<◌, ◌+◌, ◌*◌, ◌-◌, ◌/◌, ◌%◌, ℕ, List, length, slice_index}
use Rattle.std.specs.Int.{bit_at}
use Rattle.weedle_grammar.specs.written.Bound.{table_count}
use Rattle.weedle_grammar.specs.written.Table.Definitions.{DEFINITIONS}
use Rattle.weedle_rules.specs.Cells.{cell_number}
use Rattle.weedle_starts.specs.Tries.{Tries, Tried}

-- among so many words there is a bit of rule r at p, in a text whose last place is this one
pub record HasBit (last many r p : ℕ) : Type 0 where
  pub low : r < table_count
  pub within : p ≤ last
  pub laid : cell_number last r p < 64 * many

-- the bit of a cell is set; the first cell of a word has its highest bit
unfoldable pub IsSet : List ℕ → ℕ → Type 0
IsSet words cell = bit_at (slice_index words (cell / 64)) (63 - cell % 64) ≡ 1

-- no cell from one to another is set
abbrev pub IsClear : List ℕ → ℕ → ℕ → Type 0
IsClear words from to = (cell : ℕ) → from ≤ cell → cell < to → IsSet words cell → ⊥

-- the cell is set, and none behind it before this one
pub record IsLastSet (words : List ℕ) (behind cell : ℕ) : Type 0 where
  pub before : cell < behind
  pub is_set : IsSet words cell
  pub clear : IsClear words (cell + 1) behind

-- rule r is marked at p
abbrev pub IsMarked : ℕ → List ℕ → ℕ → ℕ → Type 0
IsMarked last words r p = IsSet words (cell_number last r p)

-- what is marked now is what was marked before, and what `more` says
pub record Adds (last : ℕ) (old new : List ℕ) (more : ℕ → ℕ → Type 0) : Type 0 where
  pub many : length new ≡ length old
  pub are : (x q : ℕ) → HasBit last (length old) x q → IsMarked last new x q ↔ (IsMarked last old x q ⊎ more x q)

-- what is marked is exactly what P says
abbrev pub AreMarked : ℕ → List ℕ → (ℕ → ℕ → Type 0) → Type 0
AreMarked last words P = (x q : ℕ) → HasBit last (length words) x q → IsMarked last words x q ↔ P x q

-- there is a bit for all that is tried, and what is marked is exactly that
pub record AreTried (text : List ℕ) (start : ℕ) (words : List ℕ) : Type 0 where
  pub inside : (x q : ℕ) → Tried text start x q → HasBit (length text) (length words) x q
  pub are : AreMarked (length text) words (Tried text start)

-- how far the marking has come: down to this cell
pub record IsMarking (text : List ℕ) (start : ℕ) (words : List ℕ) (cell : ℕ) : Type 0 where
  -- the rule of definitions is marked at the start, and what is marked is tried
  pub inside : HasBit (length text) (length words) DEFINITIONS start
  pub first : IsMarked (length text) words DEFINITIONS start
  pub sound : (r p : ℕ) → HasBit (length text) (length words) r p → IsMarked (length text) words r p → Tried text start r p
  -- what a marked rule tries is marked, where its cell is this one or behind it
  pub closed : (r p : ℕ) → HasBit (length text) (length words) r p → cell ≤ cell_number (length text) r p → IsMarked (length text) words r p
      → (x q : ℕ) → Tries text r p x q → IsMarked (length text) words x q

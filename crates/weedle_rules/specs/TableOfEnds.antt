-- A packrat table.
use Rattle.std.specs.Prelude.{◌≡◌, ◌≤◌, ◌+◌, ◌*◌, max, ℕ, Bool, List, length, sum, fold, All, Option}
use Rattle.weedle_grammar.specs.written.Bound.{table_count}
use Rattle.weedle_rules.specs.written.Bound.{most_reads}
use Rattle.weedle_rules.specs.Cells.{AllRight}

-- a packrat table as contracts see it
pub record TableOfEnds : Type 0 where
  -- its text, and what is known of each cell, in the order of the filling (`cell_of` finds one)
  pub text : List ℕ
  pub known : List (Option ℕ)
  -- how many cells were worked out
  pub workings : ℕ
  -- how many looks that took, and how many the one that took most
  pub reads : ℕ
  pub most : ℕ
  -- whether its cells are narrow
  pub narrow : Bool

-- the greatest number of a list, and 0 of none
abbrev pub greatest : List ℕ → ℕ
greatest ns = fold max 0 ns

-- so many looks one working-out may take, where k are allowed
abbrev pub IsAmount : ℕ → ℕ → Type 0
IsAmount k n = (1 ≤ n) × (n ≤ k)

-- of workings-out that took so many looks each, in this order: how many they are, the sum of the looks, and the greatest
pub record AreCounts (k : ℕ) (counts : List ℕ) (workings reads most : ℕ) : Type 0 where
  pub each : All (IsAmount k) counts
  pub workings_are : workings ≡ length counts
  pub reads_are : reads ≡ sum counts
  pub most_is : most ≡ greatest counts

-- what always holds of the counts, where a working-out may take k looks
pub record IsCounted (k : ℕ) (known : List (Option ℕ)) (workings reads most : ℕ) : Type 0 where
  pub each : workings ≡ length known
  -- how many looks the working-out of each known cell took
  pub counts : List ℕ
  pub counted : AreCounts k counts workings reads most

-- the whole table of a text
pub record IsTableOf (t : TableOfEnds) (text : List ℕ) : Type 0 where
  pub text_is : t.text ≡ text
  -- a cell for each rule at each place
  pub full : length t.known ≡ (length text + 1) * table_count
  pub right : AllRight text t.known
  pub counted : IsCounted most_reads t.known t.workings t.reads t.most

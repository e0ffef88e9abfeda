-- The counting view's fields as contracts see them, and what always holds of them.
use Rattle.std.specs.Prelude.{◌≡◌, ◌≤◌, ◌<◌, ◌+◌, ◌-◌, ◌*◌, ℕ, Bool, true, List, length, map, take, Option}
use Rattle.std.proofs.Common.{get_or}
use Rattle.std.specs.List.{flat_map}
use Rattle.weedle_grammar.specs.written.Bound.{table_count}
use Rattle.weedle_rules.specs.written.Bound.{most_reads}
use Rattle.weedle_rules.specs.Cells.{AllRight}
use Rattle.weedle_rules.specs.TableOfEnds.{AreCounts}

-- the cells of the rows, row by row
abbrev pub cells_of : {C : Type 0} → List (List C) → List C
cells_of rows = flat_map (λ row. row) rows

-- what the cells that are known stand for
abbrev pub known_of : {C : Type 0} → (C → Option ℕ) → ℕ → List (List C) → List (Option ℕ)
known_of stands workings rows = map stands (take workings (cells_of rows))

-- a cell for each rule in each row
abbrev pub AreRows : {C : Type 0} → List (List C) → Type 0
AreRows {C} rows = (i : ℕ) (d : List C) → i < length rows → length (get_or rows i d) ≡ table_count

-- what always holds of a counting view whose cells stand for outcomes by `stands`, up to the greatest end
pub record IsReader {C : Type 0} (stands : C → Option ℕ) (greatest : ℕ) (text : List ℕ) (rows : List (List C)) (capacity before workings reads most : ℕ) (is_open : Bool) : Type 0 where
  -- every end in the text can be held
  pub fits : length text ≤ greatest
  pub even : AreRows rows
  -- all cells of the rows before the last are known
  pub above : before ≡ (length rows - 1) * table_count
  pub laid : workings ≤ length rows * table_count
  -- there is room for a row for each place, and no more are added
  pub room : length text + 1 ≤ capacity
  pub few : length rows ≤ length text + 1
  -- each known cell is its rule's end, or its failure, at its place
  pub right : AllRight text (known_of stands workings rows)
  -- how many looks each closed working-out took
  pub counts : List ℕ
  pub counted : AreCounts most_reads counts workings reads most
  -- while a working-out is open, its cell is there
  pub open_cell : is_open ≡ true → workings < length rows * table_count

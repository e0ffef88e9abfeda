-- How many nodes trees have, and what bounds it.
use Rattle.std.specs.Prelude.{◌≤◌, ℕ, ◌+◌, ◌*◌, Bool, true, false, not, List, [], ◌∷◌, ◌++◌, length}
use Rattle.std.specs.List.{filter}
use Rattle.weedle_grammar.specs.Rows.{Row, Seq, If}
use Rattle.weedle_grammar.specs.Trees.{Tree, Trees, Done, Then, Mark, Text, Node, Alt, Absent, Present, Items, Lines, Gives}
use Rattle.weedle_grammar.specs.Meaning.{Shape, Silent}
use Rattle.weedle_grammar.specs.written.Table.{row_of, shape_of, Reads}

abbrev mutual
  -- how many nodes a tree has
  pub size : Tree → ℕ
  size Mark = 1
  size (Text bytes) = 1
  size (Node ts) = 1 + sizes ts
  size (Alt i t) = 1 + size t
  size Absent = 1
  size (Present t) = 1 + size t
  size (Items ts) = 1 + sizes ts
  size (Lines bytes) = 1

  -- how many nodes trees have together
  pub sizes : Trees → ℕ
  sizes Done = 0
  sizes (Then t ts) = size t + sizes ts

-- how many nodes the trees of a list have together
abbrev pub total_size : List Tree → ℕ
total_size [] = 0
total_size (t ∷ ts) = size t + total_size ts

-- where the rule takes nothing, it gives at most two nodes
abbrev pub IsSmallWhereEmpty : List ℕ → ℕ → ℕ → Type 0
IsSmallWhereEmpty text r p = (ts : List Tree) → Reads text r p (Gives ts p) → total_size ts ≤ 2

-- the rules that a row reads one after another, with the one that follows on a condition
abbrev pub in_turn : Row → List ℕ
in_turn (Seq parts) = parts
in_turn (If parts k y) = parts ++ y ∷ []
in_turn _ = []

-- the shape gives no tree
abbrev pub is_silent : Shape → Bool
is_silent Silent = true
is_silent _ = false

-- the rule gives trees
abbrev pub gives : ℕ → Bool
gives r = not (is_silent (shape_of r))

-- those of the rules that do
abbrev pub giving : List ℕ → List ℕ
giving rs = filter gives rs

-- no more than eight rules that give trees are read one after another
abbrev pub HasFewParts : ℕ → Type 0
HasFewParts r = length (giving (in_turn (row_of r))) ≤ 8

-- what the rule gives has at most 10,000 nodes for each byte that it takes, and two
abbrev pub IsBounded : List ℕ → ℕ → ℕ → Type 0
IsBounded text r p = (ts : List Tree) (end : ℕ) → Reads text r p (Gives ts end) → total_size ts + 10000 * p ≤ 10000 * end + 2

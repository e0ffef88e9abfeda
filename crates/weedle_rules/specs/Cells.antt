-- The cells of a packrat table: when one is right, and in which order they are worked out.
use Rattle.std.specs.Prelude.{◌≡◌, ◌≤◌, ◌<◌, ◌+◌, ◌-◌, ◌*◌, ℕ, List, length, Option, Some, None}
use Rattle.std.proofs.Common.{get_or}
use Rattle.weedle_grammar.specs.written.Bound.{table_count, rule_count}
use Rattle.weedle_grammar.specs.Trees.{Outcome, Fails, Gives}
use Rattle.weedle_grammar.specs.Meaning.{Grammar, ReadsBy}
use Rattle.weedle_grammar.specs.written.Table.{webidl}

-- where an outcome ends; None of a failure
abbrev pub end_of : Outcome → Option ℕ
end_of Fails = None
end_of (Gives ts q) = Some q

-- rule r of a grammar has this end at place p, or fails there
pub record EndsBy (G : Grammar) (text : List ℕ) (r p : ℕ) (e : Option ℕ) : Type 0 where
  pub outcome : Outcome
  pub reads : ReadsBy G text r p outcome
  pub is : e ≡ end_of outcome

-- rule r of the grammar of WebIDL has this end at place p, or fails there
abbrev pub HasEnd : List ℕ → ℕ → ℕ → Option ℕ → Type 0
HasEnd text r p e = EndsBy webidl text r p e

-- the number of a cell in the order of the filling: from the last place of a text of n bytes to the first, at each
-- place in the order of the rules
abbrev pub cell_number : ℕ → ℕ → ℕ → ℕ
cell_number n r p = (n - p) * table_count + r

-- the same order over all rules, tables or not: what a descent goes down by
abbrev pub turn_number : ℕ → ℕ → ℕ → ℕ
turn_number n r p = (n - p) * rule_count + r

-- what the cell of rule r at place p says
abbrev pub cell_of : List ℕ → List (Option ℕ) → ℕ → ℕ → Option ℕ
cell_of text known r p = get_or known (cell_number (length text) r p) None

-- each cell that is known is its rule's end, or its failure, at its place
abbrev pub AllRight : List ℕ → List (Option ℕ) → Type 0
AllRight text known = (r p : ℕ) → r < table_count → p ≤ length text → cell_number (length text) r p < length known
    → HasEnd text r p (cell_of text known r p)

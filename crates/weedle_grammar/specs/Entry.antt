-- The entries of the grammar's table.
use Rattle.std.specs.Prelude.{ℕ, zero, suc, Bool, true, ◌&&◌, nat_lt, List, [], ◌∷◌}
use Rattle.weedle_grammar.specs.Rows.{Row, First}
use Rattle.weedle_grammar.specs.Meaning.{Shape, Silent}
use Rattle.weedle_grammar.specs.written.Bound.{rule_count}

-- a rule: its number, its shape and its row
pub record Entry : Type 0 where
  pub number : ℕ
  pub shape : Shape
  pub row : Row

-- the entry of this number, shape and row
abbrev pub rule : ℕ → Shape → Row → Entry
rule number shape row = record { number = number; shape = shape; row = row }

-- the entry at a place of the table; past its end a rule that always fails
abbrev pub entry_at : List Entry → ℕ → Entry
entry_at [] r = rule r Silent (First [])
entry_at (e ∷ es) zero = e
entry_at (e ∷ es) (suc r) = entry_at es r

-- all of them are numbers of rules
abbrev pub are_rules : List ℕ → Bool
are_rules [] = true
are_rules (n ∷ ns) = nat_lt n rule_count && are_rules ns

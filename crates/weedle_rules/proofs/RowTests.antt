-- A test that each row of the grammar passes, though one without alternatives may not.
use Rattle.std.proofs.Common.{◌≡◌, ℕ, zero, suc, ◌<◌, List, [], ◌∷◌, length, Bool, true, ◌&&◌, refl, subst, arith}
use Rattle.weedle_grammar.specs.written.Bound.{rule_count}
use Rattle.weedle_grammar.specs.Rows.{Row}
use Rattle.weedle_grammar.specs.Entry.{Entry, entry_at}
use Rattle.weedle_grammar.specs.written.Table.{table, row_of}
use Rattle.weedle_grammar.proofs.Leaves.{both}

-- the rows of all entries pass
abbrev pub all_rows : (Row → Bool) → List Entry → Bool
all_rows test [] = true
all_rows test (e ∷ es) = test e.row && all_rows test es

as_many : length table ≡ rule_count
as_many = refl

module _ (test : Row → Bool) where
  row_at : (es : List Entry) (r : ℕ) → all_rows test es ≡ true → r < length es → test (entry_at es r).row ≡ true
  row_at [] r h l = absurd (omega arith)
  row_at (e ∷ es) zero h l = (both _ _ h).0
  row_at (e ∷ es) (suc r) h l = row_at es r (both _ _ h).1 (omega arith)

  -- a rule's row passes, if those of the table do
  pub row_passes : all_rows test table ≡ true → {r : ℕ} {row : Row} → r < rule_count → row_of r ≡ row → test row ≡ true
  row_passes h {r} l e = subst (λ row. test row ≡ true) e (row_at table r h (omega (arith, as_many)))

-- What a rule of the table tries is a rule of the table.
use Rattle.std.proofs.Common.{◌≡◌, inl, inr, ℕ, ◌<◌, List, [], ◌∷◌, true, refl, sym, subst, arith}
use Rattle.std.specs.Prelude.{nat_lt}
use Rattle.weedle_grammar.specs.written.Bound.{table_count}
use Rattle.weedle_grammar.specs.Rows.{Row, Bytes, OneOf, NotNext, Run, Past, Seq, First, Opt, Many, ListOf, List1, Tail, If}
use Rattle.weedle_grammar.specs.written.Table.{row_of}
use Rattle.weedle_grammar.specs.written.Table.Definitions.{DEFINITIONS}
use Rattle.weedle_grammar.proofs.Leaves.{both}
use Rattle.weedle_rules.proofs.PartEnds.{below}
use Rattle.weedle_rules.proofs.TableRows.{are_low, names_low, table_low}
use Rattle.weedle_starts.specs.Tries.{SameAttempt, TriesInTurn, TriesByChoice, RowTries, Tries, Tried, at_first, by}

same_low : {r p x q : ℕ} → SameAttempt r p x q → r < table_count → x < table_count
same_low s l = subst (λ z. z < table_count) (sym s.0) l

listed_low : {r p x q : ℕ} → SameAttempt r p x q → nat_lt r table_count ≡ true → x < table_count
listed_low s n = same_low s (below _ _ n)

module _ (text : List ℕ) where
  turn_low : (rs : List ℕ) (p q : ℕ) {x : ℕ} → are_low rs ≡ true → TriesInTurn text rs p x q → x < table_count
  turn_low [] p q n t = absurd t
  turn_low (r ∷ rs) p q n (inl s) = listed_low s (both _ _ n).0
  turn_low (r ∷ rs) p q n (inr (e, d, t)) = turn_low rs e q (both _ _ n).1 t

  choice_low : (rs : List ℕ) (p q : ℕ) {x : ℕ} → are_low rs ≡ true → TriesByChoice text rs p x q → x < table_count
  choice_low [] p q n t = absurd t
  choice_low (r ∷ rs) p q n (inl s) = listed_low s (both _ _ n).0
  choice_low (r ∷ rs) p q n (inr t) = choice_low rs p q (both _ _ n).1 t.1

  row_low : (row : Row) (p q : ℕ) {r x : ℕ} → r < table_count → names_low row ≡ true → RowTries text row r p x q → x < table_count
  row_low (Seq parts) p q l n t = turn_low parts p q n t
  row_low (First parts) p q l n t = choice_low parts p q n t
  row_low (Opt y) p q l n t = listed_low t n
  row_low (Many y) p q l n (inl s) = listed_low s n
  row_low (Many y) p q l n (inr (e, d, ne, s)) = same_low s l
  row_low (ListOf y u) p q l n (inl s) = listed_low s (both _ _ n).0
  row_low (ListOf y u) p q l n (inr (e, d, s)) = listed_low s (both _ _ n).1
  row_low (List1 y u) p q l n (inl s) = listed_low s (both _ _ n).0
  row_low (List1 y u) p q l n (inr (e, d, s)) = listed_low s (both _ _ n).1
  row_low (Tail y u) p q l n (inl s) = listed_low s (both _ _ n).1
  row_low (Tail y u) p q l n (inr (e, d, ne, inl s)) = listed_low s (both _ _ n).0
  row_low (Tail y u) p q l n (inr (e, d, ne, inr (z, f, s))) = same_low s l
  row_low (If parts k y) p q l n (inl t) = turn_low parts p q (both _ _ n).0 t
  row_low (If parts k y) p q l n (inr (e, w, s)) = listed_low s (both _ _ n).1
  row_low (Bytes b) p q l n t = absurd t
  row_low (OneOf c) p q l n t = absurd t
  row_low (NotNext c) p q l n t = absurd t
  row_low (Run c) p q l n t = absurd t
  row_low (Past b) p q l n t = absurd t

  pub tries_low : {r x : ℕ} (p q : ℕ) → r < table_count → Tries text r p x q → x < table_count
  tries_low {r} p q l t = row_low (row_of r) p q l (table_low l refl) t

  -- where definitions are read
  pub tried_low : {start x q : ℕ} → Tried text start x q → x < table_count
  tried_low (at_first s) = same_low s (let l : DEFINITIONS < table_count = omega arith in l)
  tried_low (by t h) = tries_low _ _ (tried_low t) h

-- What a rule of the table reads, by its row and by its parts.
use Rattle.std.proofs.Common.{refl, sym, ap, ◌∙◌, subst, arith}
use Rattle.std.proofs.lemmas.List.{drop-drop}
use Rattle.std.specs.Prelude.{◌≡◌, ℕ, ◌+◌, List, [], ◌∷◌, ◌++◌, drop, Some}
use Rattle.weedle_grammar.proofs.Shift.{given_same, last_moved, row_behind, raw_moved}
use Rattle.weedle_grammar.proofs.Suffix.{nothing, then_on}
use Rattle.weedle_grammar.specs.Meaning.{Raw, Piece, ReadsRow, ReadsSeq, by_row, shaped, given_of, last_end}
use Rattle.weedle_grammar.specs.Rows.{Row}
use Rattle.weedle_grammar.specs.written.Table.{webidl, row_of, shape_of, Reads}
use Rattle.weedle_grammar.specs.Trees.{Tree, Outcome, Gives}

-- what a rule has as its outcome, from its row's
pub of_row : {s : List ℕ} {r p : ℕ} {row : Row} {w : Raw} {o : Outcome} → row_of r ≡ row → ReadsRow webidl s row p w
    → o ≡ shaped s row (shape_of r) p w → Reads s r p o
of_row {s} {r} {p} {row} {w} {o} e d f =
    by_row (subst (λ (x : Row). ReadsRow webidl s x p w) (sym e) d) (f ∙ ap (λ (x : Row). shaped s x (shape_of r) p w) (sym e))

-- what a row does at the front of what is left
pub row_forth : (s : List ℕ) (k : ℕ) {row : Row} {w : Raw} → ReadsRow webidl (drop k s) row 0 w → ReadsRow webidl s row k (raw_moved k w)
row_forth s k {row} {w} d =
    let e : k + 0 ≡ k = omega arith in subst (λ (z : ℕ). ReadsRow webidl s row z (raw_moved k w)) e (row_behind webidl s k d)

-- what follows a step and then another follows both together
pub rest_add : (s rest end : List ℕ) (i j : ℕ) → rest ≡ drop i s → end ≡ drop j rest → end ≡ drop (i + j) s
rest_add s rest end i j e f = f ∙ ap (λ (t : List ℕ). drop j t) e ∙ drop-drop j i s

-- the rules read these trees one after another
pub record Parts (s : List ℕ) (rs : List ℕ) (ts : List Tree) (k : ℕ) : Type 0 where
  pub pieces : List Piece
  pub reads : ReadsSeq webidl s rs 0 (Some pieces)
  pub given : given_of pieces ≡ ts
  pub end : last_end 0 pieces ≡ k

-- parts after one another, where what is left goes by a name of its own
pub parts_none : {s : List ℕ} → Parts s [] [] 0
parts_none = record { pieces = []; reads = nothing; given = refl; end = refl }

-- a part, and the parts that follow it
pub parts_on : {s rest rs : List ℕ} {r i j : ℕ} {us ts : List Tree} → Reads s r 0 (Gives us i) → rest ≡ drop i s
    → Parts rest rs ts j → Parts s (r ∷ rs) (us ++ ts) (i + j)
parts_on {i = i} {us = us} d e m = record {
  pieces = _;
  reads = then_on d e m.reads;
  given = ap (λ ts. us ++ ts) (given_same i m.pieces ∙ m.given);
  end = (let a = last_moved i 0 m.pieces in let b = m.end in let c : i + 0 ≡ i = omega arith in cc);
}

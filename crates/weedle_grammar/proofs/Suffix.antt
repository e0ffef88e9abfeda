-- Composing what the parts read from the front of what is left.
use Rattle.std.proofs.Common.{◌≡◌, ℕ, ◌+◌, List, [], ◌∷◌, drop, Option, Some, None, refl, sym, subst, arith}
use Rattle.weedle_grammar.specs.Rows.{Seq}
use Rattle.weedle_grammar.specs.Trees.{Tree, trees, Node, Fails, Gives}
use Rattle.weedle_grammar.specs.Meaning.{Grammar, Plain, Piece, piece, ReadsBy, ReadsRow, ReadsSeq, by_row, by_seq, seq_end, seq_fails, seq_more, together, given_of, last_end}
use Rattle.weedle_grammar.proofs.Shift.{seq_behind, pieces_moved}

module _ {G : Grammar} {s : List ℕ} where
  at_end : {rs : List ℕ} {k : ℕ} {o : Option (List Piece)} → ReadsSeq G s rs (k + 0) o → ReadsSeq G s rs k o
  at_end {rs} {k} {o} d = let e : k + 0 ≡ k = omega arith in subst (λ z. ReadsSeq G s rs z o) e d

  -- no part reads nothing
  pub nothing : ReadsSeq G s [] 0 (Some [])
  nothing = seq_end refl

  -- a part, and the parts that follow it
  pub then : {r k : ℕ} {rs : List ℕ} {ts : List Tree} {ps : List Piece} → ReadsBy G s r 0 (Gives ts k)
      → ReadsSeq G (drop k s) rs 0 (Some ps) → ReadsSeq G s (r ∷ rs) 0 (Some (piece ts k ∷ pieces_moved k ps))
  then {k = k} d m = seq_more d (at_end (seq_behind G s k m)) refl

  -- a part, and the parts that follow it fail
  pub then_fails : {r k : ℕ} {rs : List ℕ} {ts : List Tree} → ReadsBy G s r 0 (Gives ts k) → ReadsSeq G (drop k s) rs 0 None
      → ReadsSeq G s (r ∷ rs) 0 None
  then_fails {k = k} d m = seq_more d (at_end (seq_behind G s k m)) refl

  -- the first part fails
  pub fails : {r : ℕ} {rs : List ℕ} → ReadsBy G s r 0 Fails → ReadsSeq G s (r ∷ rs) 0 None
  fails d = seq_fails d refl

  -- a plain sequence gives a node of its parts' trees
  pub node : {r : ℕ} {parts : List ℕ} {ps : List Piece} → G.row r ≡ Seq parts → G.shape r ≡ Plain
      → ReadsSeq G s parts 0 (Some ps) → ReadsBy G s r 0 (Gives (Node (trees (given_of ps)) ∷ []) (last_end 0 ps))
  node {r} {parts} {ps} e h d =
      by_row (subst (λ row. ReadsRow G s row 0 (together 0 (Some ps))) (sym e) (by_seq d refl))
      (rw (e, h) refl)

  -- where the parts fail, the sequence fails
  pub no_node : {r : ℕ} {parts : List ℕ} → G.row r ≡ Seq parts → ReadsSeq G s parts 0 None → ReadsBy G s r 0 Fails
  no_node {r} {parts} e d = by_row (subst (λ row. ReadsRow G s row 0 (together 0 None)) (sym e) (by_seq d refl)) refl

  -- where what is left goes by a name of its own
  pub then_on : {r k : ℕ} {rs : List ℕ} {ts : List Tree} {ps : List Piece} {rest : List ℕ} → ReadsBy G s r 0 (Gives ts k)
      → rest ≡ drop k s → ReadsSeq G rest rs 0 (Some ps) → ReadsSeq G s (r ∷ rs) 0 (Some (piece ts k ∷ pieces_moved k ps))
  then_on {rs = rs} {ps = ps} d e m = then d (subst (λ t. ReadsSeq G t rs 0 (Some ps)) e m)

  -- the same of parts that fail
  pub then_fails_on : {r k : ℕ} {rs : List ℕ} {ts : List Tree} {rest : List ℕ} → ReadsBy G s r 0 (Gives ts k) → rest ≡ drop k s
      → ReadsSeq G rest rs 0 None → ReadsSeq G s (r ∷ rs) 0 None
  then_fails_on {rs = rs} d e m = then_fails d (subst (λ t. ReadsSeq G t rs 0 None) e m)

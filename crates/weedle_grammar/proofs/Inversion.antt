-- From what a rule has as its outcome to what its parts have: one lemma for each kind of row.
use Rattle.std.proofs.Common.{◌≡◌, ◌≢◌, ◌⊎◌, inl, inr, ◌∙◌, ap, ℕ, suc, List, [], ◌∷◌, ◌++◌, map, drop, Option, Some, None, true, false, subst}
use Rattle.weedle_grammar.specs.declared.class.Class.{Class}
use Rattle.weedle_grammar.specs.Rows.{Row, Bytes, OneOf, NotNext, Run, Past, Seq, First, Opt, Many, ListOf, List1, Tail, If, take_bytes, take_one, take_not_next, take_past, run_length}
use Rattle.weedle_grammar.specs.Trees.{Tree, Absent, Outcome, Fails, Gives}
use Rattle.weedle_grammar.specs.Meaning.{Grammar, Piece, piece, Raw, Breaks, Yields, leaf, ReadsBy, ReadsRow, ReadsSeq, ReadsFirst, by_row, by_bytes, by_one, by_not_next, by_run, by_past, by_seq, by_first, by_opt, many_end, many_stuck, many_more, list_none, list_more, list1_fails, list1_more, tail_end, tail_stuck, tail_back, tail_more, if_fails, if_absent, if_present, seq_end, seq_fails, seq_more, first_here, first_next, together, raw_of, opted, shaped, before, with_piece, gave_some, given_of, last_end}

-- a rule's outcome is its row's, shaped
pub at_row : {G : Grammar} {text : List ℕ} {r p : ℕ} {out : Outcome} {row : Row} → G.row r ≡ row → ReadsBy G text r p out
    → (w : Raw) × ReadsRow G text row p w × (out ≡ shaped text row (G.shape r) p w)
at_row {G} {text} {r} {p} {out} e (by_row {w = w} d out_is) =
    subst (λ row. (w : Raw) × ReadsRow G text row p w × (out ≡ shaped text row (G.shape r) p w)) e (w, d, out_is)

module _ {G : Grammar} {text : List ℕ} {p : ℕ} {w : Raw} where
  -- these bytes
  pub of_bytes : {b : List ℕ} → ReadsRow G text (Bytes b) p w → w ≡ leaf p (take_bytes b (drop p text))
  of_bytes (by_bytes e) = e

  -- one byte of a class
  pub of_one : {c : Class} → ReadsRow G text (OneOf c) p w → w ≡ leaf p (take_one c (drop p text))
  of_one (by_one e) = e

  -- no byte of a class next
  pub of_not_next : {c : Class} → ReadsRow G text (NotNext c) p w → w ≡ leaf p (take_not_next c (drop p text))
  of_not_next (by_not_next e) = e

  -- all bytes of a class
  pub of_run : {c : Class} → ReadsRow G text (Run c) p w → w ≡ leaf p (Some (run_length c (drop p text)))
  of_run (by_run e) = e

  -- everything past these bytes
  pub of_past : {b : List ℕ} → ReadsRow G text (Past b) p w → w ≡ leaf p (take_past b (drop p text))
  of_past (by_past e) = e

  -- a sequence
  pub of_seq : {parts : List ℕ} → ReadsRow G text (Seq parts) p w
      → (o : Option (List Piece)) × ReadsSeq G text parts p o × (w ≡ together p o)
  of_seq (by_seq d e) = (_, d, e)

  -- the first that fits
  pub of_first : {parts : List ℕ} → ReadsRow G text (First parts) p w → (o : Outcome) × ReadsFirst G text parts 0 p o × (w ≡ raw_of o)
  of_first (by_first d e) = (_, d, e)

  -- a rule or nothing
  pub of_opt : {x : ℕ} → ReadsRow G text (Opt x) p w → (o : Outcome) × ReadsBy G text x p o × (w ≡ opted p o)
  of_opt (by_opt d e) = (_, d, e)

  -- a rule from end to end: it fails, takes nothing, or goes on
  pub of_many : {x : ℕ} → ReadsRow G text (Many x) p w →
      (ReadsBy G text x p Fails × (w ≡ Yields [] [] p))
      ⊎ (((ts : List Tree) × ReadsBy G text x p (Gives ts p) × (w ≡ Breaks))
      ⊎ ((ts : List Tree) × (q : ℕ) × (v : Raw) × ReadsBy G text x p (Gives ts q) × (q ≢ p) × ReadsRow G text (Many x) q v × (w ≡ before ts v)))
  of_many (many_end d e) = inl (d, e)
  of_many (many_stuck {x = x} {ts = ts} d s e) = inr (inl (_, subst (λ z. ReadsBy G text x p (Gives ts z)) s d, e))
  of_many (many_more d n m e) = inr (inr (_, _, _, d, n, m, e))

  -- a list: no item, or one and those after it
  pub of_list : {x t : ℕ} → ReadsRow G text (ListOf x t) p w →
      (ReadsBy G text x p Fails × (w ≡ Yields [] [] p))
      ⊎ ((ts : List Tree) × (q : ℕ) × (o : Outcome) × ReadsBy G text x p (Gives ts q) × ReadsBy G text t q o × (w ≡ before ts (raw_of o)))
  of_list (list_none d e) = inl (d, e)
  of_list (list_more d m e) = inr (_, _, _, d, m, e)

  -- a list of one item at least
  pub of_list1 : {x t : ℕ} → ReadsRow G text (List1 x t) p w →
      (ReadsBy G text x p Fails × (w ≡ Breaks))
      ⊎ ((ts : List Tree) × (q : ℕ) × (o : Outcome) × ReadsBy G text x p (Gives ts q) × ReadsBy G text t q o × (w ≡ before ts (raw_of o)))
  of_list1 (list1_fails d e) = inl (d, e)
  of_list1 (list1_more d m e) = inr (_, _, _, d, m, e)

  -- items behind separators: no separator, one that takes nothing, one that no item follows, or one that an item follows
  pub of_tail : {x s : ℕ} → ReadsRow G text (Tail x s) p w →
      (ReadsBy G text s p Fails × (w ≡ Yields [] [] p))
      ⊎ (((ts : List Tree) × ReadsBy G text s p (Gives ts p) × (w ≡ Breaks))
      ⊎ (((ts : List Tree) × (q : ℕ) × ReadsBy G text s p (Gives ts q) × (q ≢ p) × ReadsBy G text x q Fails × (w ≡ Yields [] [] p))
      ⊎ ((ts us : List Tree) × (q z : ℕ) × (v : Raw) × ReadsBy G text s p (Gives ts q) × (q ≢ p) × ReadsBy G text x q (Gives us z) × ReadsRow G text (Tail x s) z v × (w ≡ before us v))))
  of_tail (tail_end d e) = inl (d, e)
  of_tail (tail_stuck {s = s} {ts = ts} d h e) = inr (inl (_, subst (λ z. ReadsBy G text s p (Gives ts z)) h d, e))
  of_tail (tail_back d n m e) = inr (inr (inl (_, _, d, n, m, e)))
  of_tail (tail_more d n m t e) = inr (inr (inr (_, _, _, _, _, d, n, m, t, e)))

  -- a sequence and a rule that follows only where a part was there
  pub of_if : {parts : List ℕ} {k y : ℕ} → ReadsRow G text (If parts k y) p w →
      (ReadsSeq G text parts p None × (w ≡ Breaks))
      ⊎ (((pieces : List Piece) × ReadsSeq G text parts p (Some pieces) × (gave_some k pieces ≡ false) × (w ≡ Yields (given_of pieces ++ Absent ∷ []) [] (last_end p pieces)))
      ⊎ ((pieces : List Piece) × (o : Outcome) × ReadsSeq G text parts p (Some pieces) × (gave_some k pieces ≡ true) × ReadsBy G text y (last_end p pieces) o × (w ≡ before (given_of pieces) (raw_of o))))
  of_if (if_fails d e) = inl (d, e)
  of_if (if_absent d g e) = inr (inl (_, d, g, e))
  of_if (if_present d g m e) = inr (inr (_, _, d, g, m, e))

module _ {G : Grammar} {text : List ℕ} {p : ℕ} where
  -- no part gives no piece
  pub of_no_parts : {o : Option (List Piece)} → ReadsSeq G text [] p o → o ≡ Some []
  of_no_parts (seq_end e) = e

  -- the first part fails, or it gives a piece before those of the others
  pub of_parts : {r : ℕ} {rs : List ℕ} {o : Option (List Piece)} → ReadsSeq G text (r ∷ rs) p o →
      (ReadsBy G text r p Fails × (o ≡ None))
      ⊎ ((ts : List Tree) × (q : ℕ) × (v : Option (List Piece)) × ReadsBy G text r p (Gives ts q) × ReadsSeq G text rs q v × (o ≡ with_piece (piece ts q) v))
  of_parts (seq_fails d e) = inl (d, e)
  of_parts (seq_more d m e) = inr (_, _, _, d, m, e)

  -- the first alternative fits, or it fails and another is tried
  pub of_choice : {r i : ℕ} {rs : List ℕ} {o : Outcome} → ReadsFirst G text (r ∷ rs) i p o →
      ((ts : List Tree) × (q : ℕ) × ReadsBy G text r p (Gives ts q) × (o ≡ Gives (map (Rattle.weedle_grammar.specs.Trees.Tree.Alt i) ts) q))
      ⊎ (ReadsBy G text r p Fails × ReadsFirst G text rs (suc i) p o)
  of_choice (first_here d e) = inl (_, _, d, e)
  of_choice (first_next d m) = inr (d, m)

  -- the parts of a rule whose row is a sequence
  pub parts_of : {r : ℕ} {parts : List ℕ} {out : Outcome} → G.row r ≡ Seq parts → ReadsBy G text r p out
      → (o : Option (List Piece)) × ReadsSeq G text parts p o × (out ≡ shaped text (Seq parts) (G.shape r) p (together p o))
  parts_of {r} {parts} {out} e h =
      let a = at_row e h in
      let s = of_seq a.1 in
      (s.0, s.1, a.2 ∙ ap (shaped text (Seq parts) (G.shape r) p) s.2)

  -- the alternatives of a rule whose row is a choice
  pub choice_of : {r : ℕ} {parts : List ℕ} {out : Outcome} → G.row r ≡ First parts → ReadsBy G text r p out
      → (o : Outcome) × ReadsFirst G text parts 0 p o × (out ≡ shaped text (First parts) (G.shape r) p (raw_of o))
  choice_of {r} {parts} {out} e h =
      let a = at_row e h in
      let s = of_first a.1 in
      (s.0, s.1, a.2 ∙ ap (shaped text (First parts) (G.shape r) p) s.2)

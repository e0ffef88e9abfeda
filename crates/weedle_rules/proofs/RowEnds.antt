-- What a rule's end is, from the ends of its parts: one lemma for each case of each kind of row
-- except for sequences with a condition.
use Rattle.std.proofs.Common.{◌≡◌, ◌≢◌, inl, inr, ℕ, ◌+◌, ◌<◌, ◌≤◌, List, [], length, drop, Option, Some, None, refl, ap, sym, subst, ◌∙◌, arith}
use Rattle.std.specs.Prelude.{option_map}
use Rattle.std.proofs.lemmas.Bool.{cases_lt}
use Rattle.weedle_grammar.specs.written.Bound.{table_count, rule_count}
use Rattle.weedle_grammar.specs.Rows.{Row, Bytes, OneOf, NotNext, Run, Past, Seq, First, Opt, Many, ListOf, List1, Tail, take_bytes, take_one, take_not_next, take_past, run_length}
use Rattle.weedle_grammar.specs.declared.class.Class.{Class}
use Rattle.weedle_grammar.specs.Trees.{Tree, Outcome, Fails, Gives}
use Rattle.weedle_grammar.specs.Meaning.{Grammar, Shape, Piece, piece, Raw, Breaks, Yields, ReadsBy, ReadsRow, ReadsSeq, ReadsFirst, by_row, by_bytes, by_one, by_not_next, by_run, by_past, by_seq, by_first, by_opt, many_end, many_stuck, many_more, list_none, list_more, list1_fails, list1_more, tail_end, tail_stuck, tail_back, tail_more, leaf, shaped, raw_of, opted, before, together, with_piece, last_end}
use Rattle.weedle_rules.specs.Cells.{end_of, EndsBy, cell_number, turn_number}
use Rattle.weedle_grammar.proofs.Inversion.{at_row, of_run, of_past}
use Rattle.weedle_grammar.proofs.Exists.{grows, stays_inside}

-- a cell behind the place, or of a smaller rule at it, is before the rule's
pub is_before : (p q x r n : ℕ) → p ≤ q → q ≤ n → x < table_count → (q ≡ p → x < r) → cell_number n x q < cell_number n r p
is_before p q x r n after within l low = elim (cases_lt p q) [ inl h ↦ omega arith | inr h ↦ (let e : q ≡ p = omega arith in let k : x < r = low e in omega arith) ]

-- the same over all rules
pub turn_before : (p q x r n : ℕ) → p ≤ q → q ≤ n → x < rule_count → (q ≡ p → x < r) → turn_number n x q < turn_number n r p
turn_before p q x r n after within l low = elim (cases_lt p q) [ inl h ↦ omega arith | inr h ↦ (let e : q ≡ p = omega arith in let k : x < r = low e in omega arith) ]

-- the end of what a row yields
abbrev pub raw_end : Raw → Option ℕ
raw_end Breaks = None
raw_end (Yields ts ends q) = Some q

-- the end of a sequence from p
abbrev pub pieces_end : ℕ → Option (List Piece) → Option ℕ
pieces_end p None = None
pieces_end p (Some pieces) = Some (last_end p pieces)

shaped_end : (text : List ℕ) (row : Row) (shape : Shape) (p : ℕ) (w : Raw) → end_of (shaped text row shape p w) ≡ raw_end w
shaped_end text row shape p Breaks = refl
shaped_end text row shape p (Yields ts ends q) = refl

together_end : (p : ℕ) (o : Option (List Piece)) → raw_end (together p o) ≡ pieces_end p o
together_end p None = refl
together_end p (Some pieces) = refl

pub raw_of_end : (o : Outcome) → raw_end (raw_of o) ≡ end_of o
raw_of_end Fails = refl
raw_of_end (Gives ts q) = refl

pub before_end : (ts : List Tree) (w : Raw) → raw_end (before ts w) ≡ raw_end w
before_end ts Breaks = refl
before_end ts (Yields us ends q) = refl

pub piece_end : (p q : ℕ) (ts : List Tree) (o : Option (List Piece)) → pieces_end p (with_piece (piece ts q) o) ≡ pieces_end q o
piece_end p q ts None = refl
piece_end p q ts (Some pieces) = refl

leaf_end : (p : ℕ) (t : Option ℕ) → raw_end (leaf p t) ≡ option_map (λ k. p + k) t
leaf_end p None = refl
leaf_end p (Some k) = refl

-- a row, a sequence and a choice with these ends
pub record RowEnds (G : Grammar) (text : List ℕ) (row : Row) (p : ℕ) (e : Option ℕ) : Type 0 where
  pub raw : Raw
  pub reads : ReadsRow G text row p raw
  pub is : e ≡ raw_end raw

pub record SeqEnds (G : Grammar) (text rs : List ℕ) (p : ℕ) (e : Option ℕ) : Type 0 where
  pub pieces : Option (List Piece)
  pub reads : ReadsSeq G text rs p pieces
  pub is : e ≡ pieces_end p pieces

pub record FirstEnds (G : Grammar) (text rs : List ℕ) (i p : ℕ) (e : Option ℕ) : Type 0 where
  pub outcome : Outcome
  pub reads : ReadsFirst G text rs i p outcome
  pub is : e ≡ end_of outcome

-- the derivation of an end, and of a failure
module _ {G : Grammar} {text : List ℕ} {r p : ℕ} where
  pub split : {e : Option ℕ} {o : Outcome} → ReadsBy G text r p o → e ≡ end_of o → (q : ℕ) → e ≡ Some q → (ts : List Tree) × ReadsBy G text r p (Gives ts q)
  split {o = Fails} d h q k = cc
  split {o = Gives ts z} d h q k = let n : z ≡ q = cc in (ts, subst (λ z. ReadsBy G text r p (Gives ts z)) n d)

  pub gave : {q : ℕ} → EndsBy G text r p (Some q) → (ts : List Tree) × ReadsBy G text r p (Gives ts q)
  gave {q} h = split h.reads h.is q refl

  pub split_fail : {e : Option ℕ} {o : Outcome} → ReadsBy G text r p o → e ≡ end_of o → e ≡ None → ReadsBy G text r p Fails
  split_fail {o = Fails} d h k = d
  split_fail {o = Gives ts z} d h k = cc

  pub failed : EndsBy G text r p None → ReadsBy G text r p Fails
  failed h = split_fail h.reads h.is refl

  -- a row's end is its rule's
  pub rule_ends : {row : Row} {e : Option ℕ} → G.row r ≡ row → RowEnds G text row p e → EndsBy G text r p e
  rule_ends {row} {e} k h = record {
    outcome = shaped text (G.row r) (G.shape r) p h.raw;
    reads = by_row (subst (λ row. ReadsRow G text row p h.raw) (sym k) h.reads) refl;
    is = h.is ∙ sym (shaped_end text (G.row r) (G.shape r) p h.raw);
  }

  pub row_ends : {row : Row} {e : Option ℕ} → G.row r ≡ row → EndsBy G text r p e → RowEnds G text row p e
  row_ends {row} k h =
      let a = at_row k h.reads in
      record { raw = a.0; reads = a.1; is = h.is ∙ ap end_of a.2 ∙ shaped_end text row (G.shape r) p a.0 }

module _ (G : Grammar) (text : List ℕ) where
  -- rows without parts
  pub bytes_ends : (b : List ℕ) (p : ℕ) (e : Option ℕ) → e ≡ option_map (λ k. p + k) (take_bytes b (drop p text)) → RowEnds G text (Bytes b) p e
  bytes_ends b p e h = record { raw = leaf p (take_bytes b (drop p text)); reads = by_bytes refl; is = h ∙ sym (leaf_end p (take_bytes b (drop p text))) }

  pub one_ends : (c : Class) (p : ℕ) (e : Option ℕ) → e ≡ option_map (λ k. p + k) (take_one c (drop p text)) → RowEnds G text (OneOf c) p e
  one_ends c p e h = record { raw = leaf p (take_one c (drop p text)); reads = by_one refl; is = h ∙ sym (leaf_end p (take_one c (drop p text))) }

  pub not_next_ends : (c : Class) (p : ℕ) (e : Option ℕ) → e ≡ option_map (λ k. p + k) (take_not_next c (drop p text)) → RowEnds G text (NotNext c) p e
  not_next_ends c p e h = record { raw = leaf p (take_not_next c (drop p text)); reads = by_not_next refl; is = h ∙ sym (leaf_end p (take_not_next c (drop p text))) }

  pub run_ends : (c : Class) (p : ℕ) (e : Option ℕ) → e ≡ Some (p + run_length c (drop p text)) → RowEnds G text (Run c) p e
  run_ends c p e h = record { raw = leaf p (Some (run_length c (drop p text))); reads = by_run refl; is = h }

  pub past_ends : (b : List ℕ) (p : ℕ) (e : Option ℕ) → e ≡ option_map (λ k. p + k) (take_past b (drop p text)) → RowEnds G text (Past b) p e
  past_ends b p e h = record { raw = leaf p (take_past b (drop p text)); reads = by_past refl; is = h ∙ sym (leaf_end p (take_past b (drop p text))) }

  -- and back
  pub run_end_is : (c : Class) (p : ℕ) (e : Option ℕ) → RowEnds G text (Run c) p e → e ≡ Some (p + run_length c (drop p text))
  run_end_is c p e h = h.is ∙ ap raw_end (of_run h.reads)

  pub past_end_is : (b : List ℕ) (p : ℕ) (e : Option ℕ) → RowEnds G text (Past b) p e → e ≡ option_map (λ k. p + k) (take_past b (drop p text))
  past_end_is b p e h = h.is ∙ ap raw_end (of_past h.reads) ∙ leaf_end p (take_past b (drop p text))

  -- rows with parts
  pub seq_ends : (parts : List ℕ) (p : ℕ) (e : Option ℕ) → SeqEnds G text parts p e → RowEnds G text (Seq parts) p e
  seq_ends parts p e h = record { raw = together p h.pieces; reads = by_seq h.reads refl; is = h.is ∙ sym (together_end p h.pieces) }

  pub first_ends : (parts : List ℕ) (p : ℕ) (e : Option ℕ) → FirstEnds G text parts 0 p e → RowEnds G text (First parts) p e
  first_ends parts p e h = record { raw = raw_of h.outcome; reads = by_first h.reads refl; is = h.is ∙ sym (raw_of_end h.outcome) }

  pub opt_absent : (x p : ℕ) → EndsBy G text x p None → RowEnds G text (Opt x) p (Some p)
  opt_absent x p h = record { raw = opted p Fails; reads = by_opt (failed h) refl; is = refl }

  pub opt_present : (x p q : ℕ) → EndsBy G text x p (Some q) → RowEnds G text (Opt x) p (Some q)
  opt_present x p q h = let g = gave h in record { raw = opted p (Gives g.0 q); reads = by_opt g.1 refl; is = refl }

  pub many_ends : (x p : ℕ) → EndsBy G text x p None → RowEnds G text (Many x) p (Some p)
  many_ends x p h = record { raw = Yields [] [] p; reads = many_end (failed h) refl; is = refl }

  pub many_fails : (x p : ℕ) → EndsBy G text x p (Some p) → RowEnds G text (Many x) p None
  many_fails x p h = let g = gave h in record { raw = Breaks; reads = many_stuck g.1 refl refl; is = refl }

  pub many_goes : (x p q : ℕ) (e : Option ℕ) → EndsBy G text x p (Some q) → q ≢ p → RowEnds G text (Many x) q e → RowEnds G text (Many x) p e
  many_goes x p q e h n m = let g = gave h in record { raw = before g.0 m.raw; reads = many_more g.1 n m.reads refl; is = m.is ∙ sym (before_end g.0 m.raw) }

  pub list_ends : (x t p : ℕ) → EndsBy G text x p None → RowEnds G text (ListOf x t) p (Some p)
  list_ends x t p h = record { raw = Yields [] [] p; reads = list_none (failed h) refl; is = refl }

  pub list_goes : (x t p q : ℕ) (e : Option ℕ) → EndsBy G text x p (Some q) → EndsBy G text t q e → RowEnds G text (ListOf x t) p e
  list_goes x t p q e h m = let g = gave h in record { raw = before g.0 (raw_of m.outcome); reads = list_more g.1 m.reads refl; is = m.is ∙ sym (before_end g.0 (raw_of m.outcome) ∙ raw_of_end m.outcome) }

  pub list1_ends : (x t p : ℕ) → EndsBy G text x p None → RowEnds G text (List1 x t) p None
  list1_ends x t p h = record { raw = Breaks; reads = list1_fails (failed h) refl; is = refl }

  pub list1_goes : (x t p q : ℕ) (e : Option ℕ) → EndsBy G text x p (Some q) → EndsBy G text t q e → RowEnds G text (List1 x t) p e
  list1_goes x t p q e h m = let g = gave h in record { raw = before g.0 (raw_of m.outcome); reads = list1_more g.1 m.reads refl; is = m.is ∙ sym (before_end g.0 (raw_of m.outcome) ∙ raw_of_end m.outcome) }

  pub tail_ends : (x s p : ℕ) → EndsBy G text s p None → RowEnds G text (Tail x s) p (Some p)
  tail_ends x s p h = record { raw = Yields [] [] p; reads = tail_end (failed h) refl; is = refl }

  pub tail_fails : (x s p : ℕ) → EndsBy G text s p (Some p) → RowEnds G text (Tail x s) p None
  tail_fails x s p h = let g = gave h in record { raw = Breaks; reads = tail_stuck g.1 refl refl; is = refl }

  pub tail_gives_back : (x s p q : ℕ) → EndsBy G text s p (Some q) → q ≢ p → EndsBy G text x q None → RowEnds G text (Tail x s) p (Some p)
  tail_gives_back x s p q h n m = let g = gave h in record { raw = Yields [] [] p; reads = tail_back g.1 n (failed m) refl; is = refl }

  pub tail_goes : (x s p q z : ℕ) (e : Option ℕ) → EndsBy G text s p (Some q) → q ≢ p → EndsBy G text x q (Some z) → RowEnds G text (Tail x s) z e → RowEnds G text (Tail x s) p e
  tail_goes x s p q z e h n m t = let g = gave h in let i = gave m in
      record { raw = before i.0 t.raw; reads = tail_more g.1 n i.1 t.reads refl; is = t.is ∙ sym (before_end i.0 t.raw) }

  -- where an end lies
  pub ends_after : (r p q : ℕ) → EndsBy G text r p (Some q) → p ≤ q
  ends_after r p q h = grows G text (gave h).1

  pub ends_inside : (r p q : ℕ) → EndsBy G text r p (Some q) → p ≤ length text → q ≤ length text
  ends_inside r p q h l = stays_inside G text (gave h).1 l

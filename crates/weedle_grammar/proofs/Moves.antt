-- Where a rule ends, from what its leaves do.
use Rattle.std.proofs.Common.{◌≡◌, ℕ, ◌+◌, List, drop, Option, Some, None, refl, sym, subst}
use Rattle.weedle_grammar.specs.Rows.{Row, Bytes, OneOf, NotNext, Run, Past, take_bytes, take_one, take_not_next, take_past, run_length}
use Rattle.weedle_grammar.specs.Trees.{Tree, Outcome, Fails, Gives}
use Rattle.weedle_grammar.specs.Meaning.{Grammar, Shape, Piece, piece, Raw, Breaks, Yields, leaf, ReadsBy, ReadsRow, ReadsSeq, ReadsFirst, by_row, by_bytes, by_one, by_not_next, by_run, by_past, by_seq, by_first, by_opt, many_end, many_stuck, many_more, list_none, list_more, list1_fails, list1_more, tail_end, tail_stuck, tail_back, tail_more, if_fails, if_absent, if_present, seq_end, seq_fails, seq_more, first_none, first_here, first_next, together, raw_of, opted, shaped, before, with_piece, given_of, last_end}

-- what a row without parts takes; None of the others
abbrev pub taken : Row → List ℕ → Option ℕ
taken (Bytes b) text = take_bytes b text
taken (OneOf c) text = take_one c text
taken (NotNext c) text = take_not_next c text
taken (Run c) text = Some (run_length c text)
taken (Past b) text = take_past b text
taken _ text = None

-- a relation between two places
abbrev pub Step : Type 1
Step = ℕ → ℕ → Type 0

-- a rule's outcome at p fails, or its end is a step from p
abbrev pub OutLands : Step → ℕ → Outcome → Type 0
OutLands P p Fails = Unit {0}
OutLands P p (Gives ts q) = P p q

-- what a row yields at p is a failure, or its end is a step from p
abbrev pub RawLands : Step → ℕ → Raw → Type 0
RawLands P p Breaks = Unit {0}
RawLands P p (Yields ts ends q) = P p q

-- a sequence at p fails, or the end of its pieces is a step from p
abbrev pub SeqLands : Step → ℕ → Option (List Piece) → Type 0
SeqLands P p None = Unit {0}
SeqLands P p (Some pieces) = P p (last_end p pieces)

-- a rule ends where its row ends
pub shaped_lands : (P : Step) (text : List ℕ) (row : Row) (shape : Shape) (p : ℕ) (w : Raw) → RawLands P p w
    → OutLands P p (shaped text row shape p w)
shaped_lands P text row shape p Breaks h = tt
shaped_lands P text row shape p (Yields ts ends q) h = h

-- a row without parts ends behind what it takes
pub leaf_lands : (P : Step) (p : ℕ) (t : Option ℕ) → ((k : ℕ) → t ≡ Some k → P p (p + k)) → RawLands P p (leaf p t)
leaf_lands P p None h = tt
leaf_lands P p (Some k) h = h k refl

-- a sequence ends where its pieces end
pub together_lands : (P : Step) (p : ℕ) (o : Option (List Piece)) → SeqLands P p o → RawLands P p (together p o)
together_lands P p None h = tt
together_lands P p (Some pieces) h = h

-- a row that passes on an outcome ends where that ends
pub raw_lands : (P : Step) (p : ℕ) (o : Outcome) → OutLands P p o → RawLands P p (raw_of o)
raw_lands P p Fails h = tt
raw_lands P p (Gives ts q) h = h

-- a rule or nothing ends where the rule ends, or at p
pub opted_lands : (P : Step) (p : ℕ) (o : Outcome) → P p p → OutLands P p o → RawLands P p (opted p o)
opted_lands P p Fails here h = here
opted_lands P p (Gives ts q) here h = h

module _ (P : Step) (here : (p : ℕ) → P p p) (on : (p q e : ℕ) → P p q → P q e → P p e) where
  -- a step and what a row yields from there
  pub onward : (p q : ℕ) (ts : List Tree) (w : Raw) → P p q → RawLands P q w → RawLands P p (before ts w)
  onward p q ts Breaks h k = tt
  onward p q ts (Yields us ends e) h k = on p q e h k

  -- a step and the pieces from there
  pub seq_onward : (p q : ℕ) (ts : List Tree) (o : Option (List Piece)) → P p q → SeqLands P q o → SeqLands P p (with_piece (piece ts q) o)
  seq_onward p q ts None h k = tt
  seq_onward p q ts (Some pieces) h k = on p q (last_end q pieces) h k

  module _ (G : Grammar) (text : List ℕ) (Q : Row → Type 0) (every : (r : ℕ) → Q (G.row r)) (leaves : (row : Row) (p k : ℕ) → Q row → taken row (drop p text) ≡ Some k → P p (p + k)) where
    mutual
      -- each rule ends a step away, if each row without parts does
      pub moves : {r p : ℕ} {o : Outcome} → ReadsBy G text r p o → OutLands P p o
      moves {r} {p} (by_row {w = w} d e) =
          subst (OutLands P p) (sym e) (shaped_lands P text (G.row r) (G.shape r) p w (row_moves d (every r)))

      -- the same of rows
      pub row_moves : {row : Row} {p : ℕ} {w : Raw} → ReadsRow G text row p w → Q row → RawLands P p w
      row_moves {p = p} (by_bytes {b = b} e) q = subst (RawLands P p) (sym e) (leaf_lands P p _ (λ k. leaves (Bytes b) p k q))
      row_moves {p = p} (by_one {c = c} e) q = subst (RawLands P p) (sym e) (leaf_lands P p _ (λ k. leaves (OneOf c) p k q))
      row_moves {p = p} (by_not_next {c = c} e) q = subst (RawLands P p) (sym e) (leaf_lands P p _ (λ k. leaves (NotNext c) p k q))
      row_moves {p = p} (by_run {c = c} e) q = subst (RawLands P p) (sym e) (leaf_lands P p _ (λ k. leaves (Run c) p k q))
      row_moves {p = p} (by_past {b = b} e) q = subst (RawLands P p) (sym e) (leaf_lands P p _ (λ k. leaves (Past b) p k q))
      row_moves {p = p} (by_seq {o = o} d e) q = subst (RawLands P p) (sym e) (together_lands P p o (seq_moves d))
      row_moves {p = p} (by_first {o = o} d e) q = subst (RawLands P p) (sym e) (raw_lands P p o (first_moves d))
      row_moves {p = p} (by_opt {o = o} d e) q = subst (RawLands P p) (sym e) (opted_lands P p o (here p) (moves d))
      row_moves {p = p} (many_end d e) q = subst (RawLands P p) (sym e) (here p)
      row_moves {p = p} (many_stuck d s e) q = subst (RawLands P p) (sym e) tt
      row_moves {p = p} (many_more {q = z} {ts = ts} {w = w} d n m e) q =
          subst (RawLands P p) (sym e) (onward p z ts w (moves d) (row_moves m q))
      row_moves {p = p} (list_none d e) q = subst (RawLands P p) (sym e) (here p)
      row_moves {p = p} (list_more {q = z} {ts = ts} {o = o} d m e) q =
          subst (RawLands P p) (sym e) (onward p z ts (raw_of o) (moves d) (raw_lands P z o (moves m)))
      row_moves {p = p} (list1_fails d e) q = subst (RawLands P p) (sym e) tt
      row_moves {p = p} (list1_more {q = z} {ts = ts} {o = o} d m e) q =
          subst (RawLands P p) (sym e) (onward p z ts (raw_of o) (moves d) (raw_lands P z o (moves m)))
      row_moves {p = p} (tail_end d e) q = subst (RawLands P p) (sym e) (here p)
      row_moves {p = p} (tail_stuck d s e) q = subst (RawLands P p) (sym e) tt
      row_moves {p = p} (tail_back d n m e) q = subst (RawLands P p) (sym e) (here p)
      row_moves {p = p} (tail_more {q = z} {e = y} {us = us} {w = w} d n m t e) q =
          subst (RawLands P p) (sym e) (onward p y us w (on p z y (moves d) (moves m)) (row_moves t q))
      row_moves {p = p} (if_fails d e) q = subst (RawLands P p) (sym e) tt
      row_moves {p = p} (if_absent d g e) q = subst (RawLands P p) (sym e) (seq_moves d)
      row_moves {p = p} (if_present {o = o} {pieces = pieces} d g m e) q = subst (RawLands P p) (sym e) (onward p (last_end p pieces) (given_of pieces) (raw_of o) (seq_moves d) (raw_lands P (last_end p pieces) o (moves m)))

      -- the same of sequences
      pub seq_moves : {rs : List ℕ} {p : ℕ} {o : Option (List Piece)} → ReadsSeq G text rs p o → SeqLands P p o
      seq_moves {p = p} (seq_end e) = subst (SeqLands P p) (sym e) (here p)
      seq_moves {p = p} (seq_fails d e) = subst (SeqLands P p) (sym e) tt
      seq_moves {p = p} (seq_more {q = z} {ts = ts} {o = o} d m e) =
          subst (SeqLands P p) (sym e) (seq_onward p z ts o (moves d) (seq_moves m))

      -- the same of choices
      pub first_moves : {rs : List ℕ} {i p : ℕ} {o : Outcome} → ReadsFirst G text rs i p o → OutLands P p o
      first_moves {p = p} (first_none e) = subst (OutLands P p) (sym e) tt
      first_moves {p = p} (first_here d e) = subst (OutLands P p) (sym e) (moves d)
      first_moves (first_next d m) = first_moves m

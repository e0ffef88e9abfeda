-- From what is to be built to its parts, and from what was built of the parts to the whole.
use Rattle.std.proofs.Common.{◌≡◌, ℕ, ◌+◌, List, [], ◌∷◌, ◌++◌, Option, Some, None, suc, zero, drop, slice_get, refl, sym, subst, ap, ◌∙◌, arith, inl, inr}
use Rattle.std.specs.Prelude.{IsUtf8, IsCharBoundary}
use Rattle.weedle_grammar.specs.Rows.{Row, Bytes, OneOf, NotNext, Run as RunOf, Past, Seq, First, Opt, Many, ListOf, List1, Tail, If}
use Rattle.weedle_grammar.specs.Trees.{Tree, trees, Node, Gives}
use Rattle.weedle_grammar.specs.Meaning.{Shape, Silent, Marked, Kept, Line, Joined, Inner, Plain, Piece, piece, Raw, ReadsRow, ReadsSeq, if_fails, if_absent, if_present, by_row, by_seq, seq_end, seq_more, together, with_piece, given_of, last_end, shaped}
use Rattle.weedle_grammar.specs.written.Table.{webidl, row_of, shape_of, Reads}
use Rattle.weedle_grammar.proofs.Unique.{one_outcome}
use Rattle.weedle_grammar.proofs.Inversion.{parts_of, of_parts, at_row}
use Rattle.weedle_grammar.proofs.GrammarFacts.{at_boundary}
use Rattle.weedle_grammar.proofs.Size.Lists.{size_trees}
use Rattle.weedle_starts.specs.Tries.{RowTries, TriesInTurn}
use Rattle.weedle_memo.specs.Wanted.{Wanted, by}
use Rattle.weedle_build_base.specs.Fits.{list_of, fits_seq, then_fits, end_fits}
use Rattle.weedle_build_base.specs.Built.{Rest, Run, Due, Found, Builds, Visits}

module _ {text rs : List ℕ} {p : ℕ} (wanted : (x q : ℕ) → TriesInTurn text rs p x q → Wanted text x q) (utf8 : IsUtf8 text) (boundary : IsCharBoundary text p) where
  rest_from : (row : Row) (shape : Shape) (o : Option (List Piece)) (ts : List Tree) (e : ℕ) → ReadsSeq webidl text rs p o
      → Gives ts e ≡ shaped text row shape p (together p o) → Rest text rs p
  rest_from row shape None ts e d h = cc
  rest_from row shape (Some pieces) ts e d h = record { pieces = pieces; reads = d; wanted = wanted; utf8 = utf8; boundary = boundary }

-- the parts of a sequence, or of one that something may follow
abbrev pub row_parts : Row → Option (List ℕ)
row_parts (Seq parts) = Some parts
row_parts (If parts k y) = Some parts
row_parts _ = None

if_rest : {text rs : List ℕ} {k y p : ℕ} {w : Raw} {ts : List Tree} {e : ℕ} (row : Row) (shape : Shape) → ((x q : ℕ) → TriesInTurn text rs p x q → Wanted text x q) → IsUtf8 text → IsCharBoundary text p
    → ReadsRow webidl text (If rs k y) p w → Gives ts e ≡ shaped text row shape p w → Rest text rs p
if_rest row shape a u b (if_fails d f) h = let z = f in cc
if_rest row shape a u b (if_absent d g f) h = record { pieces = _; reads = d; wanted = a; utf8 = u; boundary = b }
if_rest row shape a u b (if_present d g m f) h = record { pieces = _; reads = d; wanted = a; utf8 = u; boundary = b }

pub row_rest : {text rs : List ℕ} {r p : ℕ} → Due text r p → (row : Row) → row_of r ≡ row → row_parts row ≡ Some rs → Rest text rs p
row_rest {text} {rs} {r} {p} d (Seq parts) e f =
    let h = parts_of e d.reads in
    let q : parts ≡ rs = cc in
    subst (λ xs. Rest text xs p) q (rest_from {text = text} {rs = parts} {p = p} (λ x z k. by d.wanted (d.given, d.reads) (subst (λ row. RowTries text row r p x z) (sym e) k)) d.utf8 d.boundary (Seq parts) (shape_of r) h.0 d.given d.end h.1 h.2)
row_rest {text} {rs} {r} {p} d (If parts k y) e f =
    let h = at_row e d.reads in
    let q : parts ≡ rs = cc in
    subst (λ xs. Rest text xs p) q (if_rest {text = text} {rs = parts} {p = p} (If parts k y) (shape_of r) (λ x z m. by d.wanted (d.given, d.reads) (subst (λ row. RowTries text row r p x z) (sym e) (inl m))) d.utf8 d.boundary h.1 h.2)
row_rest d (Bytes b) e f = cc
row_rest d (OneOf c) e f = cc
row_rest d (NotNext c) e f = cc
row_rest d (RunOf c) e f = cc
row_rest d (Past b) e f = cc
row_rest d (First ps) e f = cc
row_rest d (Opt x) e f = cc
row_rest d (Many x) e f = cc
row_rest d (ListOf x t) e f = cc
row_rest d (List1 x t) e f = cc
row_rest d (Tail x s) e f = cc

-- the parts of a rule whose row is a sequence
pub rest_of_row : {text rs : List ℕ} {r p : ℕ} → Due text r p → row_of r ≡ Seq rs → Rest text rs p
rest_of_row {text} {rs} {r} {p} d row = row_rest d (Seq rs) row refl

-- the first part reads something
pub front : {text rs : List ℕ} {r p : ℕ} → Rest text (r ∷ rs) p → Due text r p
front {text} {rs} {r} {p} h = elim (of_parts h.reads) [
  | inl f ↦ absurd (let e = f.1 in cc)
  | inr m ↦ record { given = m.0; end = m.1; reads = m.3; wanted = h.wanted r p (inl (refl, refl)); utf8 = h.utf8; boundary = h.boundary }
]

module _ {text rs : List ℕ} {q : ℕ} (wanted : (x z : ℕ) → TriesInTurn text rs q x z → Wanted text x z) (utf8 : IsUtf8 text) (boundary : IsCharBoundary text q) where
  rest_after : (ts : List Tree) (pieces : List Piece) (o : Option (List Piece)) → ReadsSeq webidl text rs q o → Some pieces ≡ with_piece (piece ts q) o → Rest text rs q
  rest_after ts pieces None d e = cc
  rest_after ts pieces (Some ps) d e = record { pieces = ps; reads = d; wanted = wanted; utf8 = utf8; boundary = boundary }

-- where the first part ends, the others read something
pub next_found : {text rs : List ℕ} {r p q : ℕ} → Found text r p q → Rest text (r ∷ rs) p → Rest text rs q
next_found {text} {rs} {r} {p} {q} g h = elim (of_parts h.reads) [
  | inl f ↦ absurd (let e = f.1 in cc)
  | inr m ↦ (let same = one_outcome m.3 g.reads refl in
      let z : m.1 ≡ q = cc in
      rest_after {text = text} {rs = rs} {q = q} (λ x y k. h.wanted x y (inr (q, (g.given, g.reads), k))) h.utf8 (at_boundary text r p h.utf8 h.boundary g.given q g.reads) m.0 h.pieces m.2 (subst (λ x. ReadsSeq webidl text rs x m.2) z m.4) cc)
]

-- behind a part that was built are the other parts
pub next : {text rs : List ℕ} {r p v q w : ℕ} {t : Tree} → Builds text r t p v q w → Rest text (r ∷ rs) p → Rest text rs q
next {text} {rs} {r} {p} {v} {q} {w} {t} g h = next_found (record { given = t ∷ []; reads = g.reads }) h

module _ {text rs : List ℕ} {r p e : ℕ} {ts : List Tree} {pieces : List Piece} (row : row_of r ≡ Seq rs) (shape : shape_of r ≡ Plain) (d : ReadsSeq webidl text rs p (Some pieces))
    (given : given_of pieces ≡ ts) (end : last_end p pieces ≡ e) where
  node_reads : Reads text r p (Gives (Node (trees ts) ∷ []) e)
  node_reads = by_row (subst (λ row. ReadsRow webidl text row p (together p (Some pieces))) (sym row) (by_seq d refl)) (rw (row, shape, given, end) refl)

-- of one rule
pub run_one : {text : List ℕ} {r p v q w : ℕ} {t : Tree} → Builds text r t p v q w → Run text (r ∷ []) (t ∷ []) p v q w
run_one {text} {r} {p} {v} {q} {w} {t} g = record {
  pieces = piece (t ∷ []) q ∷ [];
  reads = seq_more g.reads (seq_end refl) refl;
  given = refl;
  end = refl;
  counts = omega (arith, g.counts);
}

-- of a rule, and of others after it
pub run_more : {text rs : List ℕ} {r p v q w e x : ℕ} {t : Tree} {ts : List Tree} → Builds text r t p v q w → Run text rs ts q w e x
    → Run text (r ∷ rs) (t ∷ ts) p v e x
run_more {text} {rs} {r} {p} {v} {q} {w} {e} {x} {t} {ts} g h = record {
  pieces = piece (t ∷ []) q ∷ h.pieces;
  reads = seq_more g.reads h.reads refl;
  given = ap (λ us. (t ∷ []) ++ us) h.given;
  end = h.end;
  counts = omega (arith, g.counts, h.counts);
}

-- a sequence gives the node of what its parts gave
pub node : {text rs : List ℕ} {r x p v q w e z : ℕ} {ts : List Tree} → r ≡ x → row_of x ≡ Seq rs → shape_of x ≡ Plain → Run text rs ts p v q w → Visits q w e z
    → Builds text r (Node (trees ts)) p v e z
node {text} {rs} {r} {x} {p} {v} {q} {w} {e} {z} {ts} fit row shape h n = record {
  reads = node_reads (ap row_of fit ∙ row) (ap shape_of fit ∙ shape) h.reads h.given (h.end ∙ sym n.same);
  counts = omega (arith, n.counts, h.counts, size_trees ts);
}

-- a sequence whose parts fit
pub fits_seq_is : (P : List ℕ → Type 0) (row : Row) (shape : Shape) → fits_seq P row shape → P (list_of row) × (row ≡ Seq (list_of row)) × (shape ≡ Plain)
fits_seq_is P (Seq xs) Plain f = (f, refl, refl)
fits_seq_is P (Seq xs) Silent f = absurd f
fits_seq_is P (Seq xs) Marked f = absurd f
fits_seq_is P (Seq xs) (Kept k) f = absurd f
fits_seq_is P (Seq xs) Line f = absurd f
fits_seq_is P (Seq xs) Joined f = absurd f
fits_seq_is P (Seq xs) Inner f = absurd f
fits_seq_is P (If xs k y) shape f = absurd f
fits_seq_is P (Bytes b) shape f = absurd f
fits_seq_is P (OneOf c) shape f = absurd f
fits_seq_is P (NotNext c) shape f = absurd f
fits_seq_is P (RunOf c) shape f = absurd f
fits_seq_is P (Past b) shape f = absurd f
fits_seq_is P (First ps) shape f = absurd f
fits_seq_is P (Opt x) shape f = absurd f
fits_seq_is P (Many x) shape f = absurd f
fits_seq_is P (ListOf x t) shape f = absurd f
fits_seq_is P (List1 x t) shape f = absurd f
fits_seq_is P (Tail x s) shape f = absurd f

module _ (P : List ℕ → Type 0) (r : ℕ) (f : fits_seq P (row_of r) (shape_of r)) where
  -- its parts
  pub seq_fits : P (list_of (row_of r))
  seq_fits = (fits_seq_is P (row_of r) (shape_of r) f).0

  pub seq_due : {text : List ℕ} {p : ℕ} → Due text r p → Rest text (list_of (row_of r)) p
  seq_due {text} {p} d = let e = (fits_seq_is P (row_of r) (shape_of r) f).1 in row_rest d (Seq (list_of (row_of r))) e refl

  pub seq_built : {text : List ℕ} {p v q w e z : ℕ} {ts : List Tree} → Run text (list_of (row_of r)) ts p v q w → Visits q w e z → Builds text r (Node (trees ts)) p v e z
  seq_built {text} {p} {v} {q} {w} {e} {z} {ts} h n = let g = fits_seq_is P (row_of r) (shape_of r) f in node refl g.1 g.2 h n

-- from part i on
drop_get : (xs : List ℕ) (i : ℕ) {x : ℕ} → slice_get xs i ≡ Some x → drop i xs ≡ x ∷ drop (suc i) xs
drop_get [] i e = cc
drop_get (y ∷ xs) zero e = cc
drop_get (y ∷ xs) (suc i) e = drop_get xs i e

pub drop_none : (xs : List ℕ) (i : ℕ) → slice_get xs i ≡ None → drop i xs ≡ []
drop_none [] zero e = refl
drop_none [] (suc i) e = refl
drop_none (y ∷ xs) zero e = cc
drop_none (y ∷ xs) (suc i) e = drop_none xs i e

pub part_here : (xs : List ℕ) (i : ℕ) {x : ℕ} → slice_get xs i ≡ Some x → drop i xs ≡ x ∷ drop (i + 1) xs
part_here xs i {x} e = let q : suc i ≡ i + 1 = omega arith in subst (λ j. drop i xs ≡ x ∷ drop j xs) q (drop_get xs i e)

module _ (F : ℕ → Type 0) (P : List ℕ → Type 0) (xs : List ℕ) (i : ℕ) (f : then_fits F P (drop i xs)) where
  pub field_fits : {x : ℕ} → slice_get xs i ≡ Some x → F x × P (drop (i + 1) xs)
  field_fits {x} e = subst (then_fits F P) (part_here xs i e) f

  pub no_field : slice_get xs i ≡ None → ⊥
  no_field e = subst (then_fits F P) (drop_none xs i e) f

module _ {text : List ℕ} (xs : List ℕ) (i : ℕ) {p : ℕ} (d : Rest text (drop i xs) p) where
  pub field_due : {x : ℕ} → slice_get xs i ≡ Some x → Due text x p
  field_due {x} e = front (subst (λ ys. Rest text ys p) (part_here xs i e) d)

  pub fields_due : {x v q w : ℕ} {t : Tree} → slice_get xs i ≡ Some x → Builds text x t p v q w → Rest text (drop (i + 1) xs) q
  fields_due {x} e g = next g (subst (λ ys. Rest text ys p) (part_here xs i e) d)

pub run_field : {text : List ℕ} {r p v q w e z : ℕ} {t : Tree} {ts : List Tree} (xs : List ℕ) (i : ℕ) → slice_get xs i ≡ Some r → Builds text r t p v q w
    → Run text (drop (i + 1) xs) ts q w e z → Run text (drop i xs) (t ∷ ts) p v e z
run_field {text} {r} {p} {v} {q} {w} {e} {z} {t} {ts} xs i h g m = subst (λ ys. Run text ys (t ∷ ts) p v e z) (sym (part_here xs i h)) (run_more g m)

end_is : (ys : List ℕ) → end_fits ys → ys ≡ []
end_is [] f = refl
end_is (x ∷ ys) f = absurd f

pub run_last : {text : List ℕ} {r p v q w : ℕ} {t : Tree} (xs : List ℕ) (i : ℕ) → slice_get xs i ≡ Some r → Builds text r t p v q w
    → end_fits (drop (i + 1) xs) → Run text (drop i xs) (t ∷ []) p v q w
run_last {text} {r} {p} {v} {q} {w} {t} xs i h g f =
    subst (λ ys. Run text ys (t ∷ []) p v q w) (sym (part_here xs i h ∙ ap (λ zs. r ∷ zs) (end_is (drop (i + 1) xs) f))) (run_one g)

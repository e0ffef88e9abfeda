-- A list of one item at least, and perhaps a separator behind it.
use Rattle.std.proofs.Common.{◌≡◌, ℕ, List, [], ◌∷◌, slice_get, Option, Some, None, refl, sym, subst, ap, ◌∙◌, arith, inl, inr}
use Rattle.std.specs.Prelude.{IsUtf8, IsCharBoundary}
use Rattle.weedle_grammar.specs.Rows.{Row, Bytes, OneOf, NotNext, Run as RunOf, Past, Seq, First, Opt, Many, ListOf, List1, Tail, If}
use Rattle.weedle_grammar.specs.declared.row.Row as rows
use Rattle.weedle_grammar.specs.declared.row.Row.TheVariants as code
use Rattle.weedle_grammar.specs.View.{row_view}
use Rattle.weedle_grammar.specs.Trees.{Tree, trees, Items, Gives}
use Rattle.weedle_grammar.specs.Meaning.{Shape, Silent, Marked, Kept, Line, Joined, Inner, Plain, Piece, piece, Raw, Breaks, before, raw_of, shaped, together, with_piece, ReadsRow, list1_more, by_row}
use Rattle.weedle_grammar.specs.written.Table.{webidl, row_of, shape_of, Reads}
use Rattle.weedle_grammar.proofs.Unique.{one_outcome}
use Rattle.weedle_grammar.proofs.Inversion.{at_row, of_list1, parts_of, of_parts}
use Rattle.weedle_grammar.proofs.GrammarFacts.{at_boundary}
use Rattle.weedle_grammar.proofs.Size.Lists.{size_trees}
use Rattle.weedle_build_base.specs.Fits.{list_of, fits_list1, fits_tail, fits_non_empty}
use Rattle.weedle_build_base.specs.Built.{plus, Due, Found, Builds, IsDueList, BuiltItems}
use Rattle.weedle_build_base.proofs.WantedFacts.{wanted_by}
use Rattle.weedle_build_base.proofs.Separated.{due_behind}

-- the list's rule and the separator's, of a rule of such lists
pub record IsNonEmpty (F : ℕ → Type 0) (row : Row) (shape : Shape) : Type 0 where
  pub list : ℕ
  pub option : ℕ
  pub row_is : row ≡ Seq (list ∷ option ∷ [])
  pub shape_is : shape ≡ Inner
  pub fits : fits_list1 F (row_of list) (shape_of list)

non_empty_is : (F : ℕ → Type 0) (row : Row) (shape : Shape) → fits_non_empty F row shape → IsNonEmpty F row shape
non_empty_is F (Seq []) shape f = absurd f
non_empty_is F (Seq (l ∷ [])) shape f = absurd f
non_empty_is F (Seq (l ∷ o ∷ [])) Inner f = record { list = l; option = o; row_is = refl; shape_is = refl; fits = f.0 }
non_empty_is F (Seq (l ∷ o ∷ [])) Silent f = absurd f
non_empty_is F (Seq (l ∷ o ∷ [])) Marked f = absurd f
non_empty_is F (Seq (l ∷ o ∷ [])) (Kept k) f = absurd f
non_empty_is F (Seq (l ∷ o ∷ [])) Line f = absurd f
non_empty_is F (Seq (l ∷ o ∷ [])) Joined f = absurd f
non_empty_is F (Seq (l ∷ o ∷ [])) Plain f = absurd f
non_empty_is F (Seq (l ∷ o ∷ x ∷ xs)) shape f = absurd f
non_empty_is F (If xs k y) shape f = absurd f
non_empty_is F (Bytes b) shape f = absurd f
non_empty_is F (OneOf c) shape f = absurd f
non_empty_is F (NotNext c) shape f = absurd f
non_empty_is F (RunOf c) shape f = absurd f
non_empty_is F (Past b) shape f = absurd f
non_empty_is F (First ps) shape f = absurd f
non_empty_is F (Opt x) shape f = absurd f
non_empty_is F (Many x) shape f = absurd f
non_empty_is F (ListOf x t) shape f = absurd f
non_empty_is F (List1 x t) shape f = absurd f
non_empty_is F (Tail x s) shape f = absurd f

-- a list of one item at least, whose items fit
pub record IsList1 (F : ℕ → Type 0) (row : Row) (shape : Shape) : Type 0 where
  pub item : ℕ
  pub tail : ℕ
  pub row_is : row ≡ List1 item tail
  pub shape_is : shape ≡ Plain
  pub fits : F item
  pub tail_fits : fits_tail item (row_of tail) (shape_of tail)

list1_is : (F : ℕ → Type 0) (row : Row) (shape : Shape) → fits_list1 F row shape → IsList1 F row shape
list1_is F (List1 x t) Plain f = record { item = x; tail = t; row_is = refl; shape_is = refl; fits = f.0; tail_fits = f.1 }
list1_is F (List1 x t) Silent f = absurd f
list1_is F (List1 x t) Marked f = absurd f
list1_is F (List1 x t) (Kept k) f = absurd f
list1_is F (List1 x t) Line f = absurd f
list1_is F (List1 x t) Joined f = absurd f
list1_is F (List1 x t) Inner f = absurd f
list1_is F (Seq xs) shape f = absurd f
list1_is F (If xs k y) shape f = absurd f
list1_is F (Bytes b) shape f = absurd f
list1_is F (OneOf c) shape f = absurd f
list1_is F (NotNext c) shape f = absurd f
list1_is F (RunOf c) shape f = absurd f
list1_is F (Past b) shape f = absurd f
list1_is F (First ps) shape f = absurd f
list1_is F (Opt x) shape f = absurd f
list1_is F (Many x) shape f = absurd f
list1_is F (ListOf x t) shape f = absurd f
list1_is F (Tail x s) shape f = absurd f

module _ (F : ℕ → Type 0) (r : ℕ) (f : fits_non_empty F (row_of r) (shape_of r)) where
  -- its first part is there
  pub list_is_there : slice_get (list_of (row_of r)) 0 ≡ None → ⊥
  list_is_there e = let h = non_empty_is F (row_of r) (shape_of r) f in let q = ap (λ row. slice_get (list_of row) 0) h.row_is in let z : Some h.list ≡ None = sym q ∙ e in cc

  module _ {m : ℕ} (at : slice_get (list_of (row_of r)) 0 ≡ Some m) where
    same_list : (non_empty_is F (row_of r) (shape_of r) f).list ≡ m
    same_list = let h = non_empty_is F (row_of r) (shape_of r) f in let q = ap (λ row. slice_get (list_of row) 0) h.row_is in let z : Some h.list ≡ Some m = sym q ∙ at in cc

    -- it is a list
    pub first_list : IsList1 F (row_of m) (shape_of m)
    first_list = let h = non_empty_is F (row_of r) (shape_of r) f in list1_is F (row_of m) (shape_of m) (subst (λ y. fits_list1 F (row_of y) (shape_of y)) same_list h.fits)

    -- and its items and what follows them fit
    pub list_fits : {x t : ℕ} → List1 x t ≡ row_of m → F x × fits_tail x (row_of t) (shape_of t)
    list_fits {x} {t} row =
        let h = first_list in
        let e : List1 h.item h.tail ≡ List1 x t = sym h.row_is ∙ sym row in
        let i : h.item ≡ x = cc in
        let j : h.tail ≡ t = cc in
        (subst F i h.fits, subst (λ y. fits_tail y (row_of t) (shape_of t)) i (subst (λ y. fits_tail h.item (row_of y) (shape_of y)) j h.tail_fits))

    -- what the two parts are
    pub parts_are : (o : ℕ) × (row_of r ≡ Seq (m ∷ o ∷ [])) × (shape_of r ≡ Inner)
    parts_are = let h = non_empty_is F (row_of r) (shape_of r) f in (h.option, h.row_is ∙ ap (λ y. Seq (y ∷ h.option ∷ [])) same_list, h.shape_is)

-- a row that is a list of one item at least is one in the program
pub seen_list1 : (row : rows.Row) {x t : ℕ} → row_view row ≡ List1 x t → ((y z : ℕ) → row ≡ code.List1 y z → ⊥) → ⊥
seen_list1 (code.List1 y z) e n = n y z refl
seen_list1 (code.Bytes b) e n = cc
seen_list1 (code.OneOf c) e n = cc
seen_list1 (code.NotNext c) e n = cc
seen_list1 (code.Run c) e n = cc
seen_list1 (code.Past b) e n = cc
seen_list1 (code.Seq ps) e n = cc
seen_list1 (code.First ps) e n = cc
seen_list1 (code.Opt y) e n = cc
seen_list1 (code.Many y) e n = cc
seen_list1 (code.List y z) e n = cc
seen_list1 (code.Tail y z) e n = cc
seen_list1 (code.If ps k y) e n = cc

list1_due_from : {text : List ℕ} {m x t p : ℕ} (given : List Tree) (end : ℕ) (shape : Shape) (raw : Raw) → Due text m p → row_of m ≡ List1 x t
    → ReadsRow webidl text (List1 x t) p raw → Gives given end ≡ shaped text (List1 x t) shape p raw → IsDueList text x t p
list1_due_from {text} {m} {x} {t} {p} given end shape raw u row d h = elim (of_list1 d) [
  | inl n ↦ absurd (let z : raw ≡ Breaks = n.1 in let y = h ∙ ap (shaped text (List1 x t) shape p) z in cc)
  | inr m ↦ record {
    item = record { given = m.0; end = m.1; reads = m.3; wanted = wanted_by u row (inl (refl, refl)); utf8 = u.utf8; boundary = u.boundary };
    next = λ us q g. (let z = one_outcome m.3 g refl in
        let j : m.1 ≡ q = cc in
        let k : raw ≡ before m.0 (raw_of m.2) = m.5 in
        due_behind (List1 x t) shape p q given m.0 end m.2 (wanted_by u row (inr (q, (us, g), (refl, refl)))) u.utf8 (at_boundary text x p u.utf8 u.boundary us q g) (h ∙ ap (shaped text (List1 x t) shape p) k) (subst (λ y. Reads text t y m.2) j m.4));
  }
]

-- its items are due where it is
pub list1_due : {text : List ℕ} {m x t p : ℕ} → Due text m p → row_of m ≡ List1 x t → IsDueList text x t p
list1_due {text} {m} {x} {t} {p} d row = let h = at_row row d.reads in list1_due_from d.given d.end (shape_of m) h.0 d row h.1 h.2

inner_from : (text : List ℕ) (parts : List ℕ) (p q e : ℕ) (t : Tree) (given : List Tree) (o : Option (List Piece)) → Gives given e ≡ shaped text (Seq parts) Inner p (together p (with_piece (piece (t ∷ []) q) o)) → given ≡ t ∷ []
inner_from text parts p q e t given None h = cc
inner_from text parts p q e t given (Some ps) h = cc

-- what was built of the list, and where its rule ends
pub non_empty_built : {text : List ℕ} {r m o x t p v q w e z : ℕ} {ts : List Tree} → row_of r ≡ Seq (m ∷ o ∷ []) → shape_of r ≡ Inner → row_of m ≡ List1 x t → shape_of m ≡ Plain
    → BuiltItems text x t p v ts q w → Found text r p e → z ≡ plus w 1 → Builds text r (Items (trees ts)) p v e z
non_empty_built {text} {r} {m} {o} {x} {t} {p} {v} {q} {w} {e} {z} {ts} row shape list list_shape g f n =
    let items : Reads text m p (Gives (Items (trees ts) ∷ []) q) =
    by_row (subst (λ row. ReadsRow webidl text row p (before (g.first ∷ []) (raw_of (Gives g.others q)))) (sym list) (list1_more g.head g.tail refl)) (rw (list_shape, list, g.all) refl) in
    let h = parts_of row f.reads in
    elim (of_parts h.1) [
      | inl a ↦ absurd (let y = one_outcome a.0 items refl in cc)
      | inr a ↦ (let y = one_outcome a.3 items refl in
          let i : a.0 ≡ Items (trees ts) ∷ [] = cc in
          let j : a.1 ≡ q = cc in
          let k : h.0 ≡ with_piece (piece (Items (trees ts) ∷ []) q) a.2 = rw (i, j) at a.5 in
          let s : Gives f.given e ≡ shaped text (Seq (m ∷ o ∷ [])) Inner p (together p (with_piece (piece (Items (trees ts) ∷ []) q) a.2)) = rw (shape, k) at h.2 in
          let c = g.counts 1 in
          record {
            reads = subst (λ us. Reads text r p (Gives us e)) (inner_from text (m ∷ o ∷ []) p q e (Items (trees ts)) f.given a.2 s) f.reads;
            counts = omega (arith, n, c, size_trees ts);
          })
    ]

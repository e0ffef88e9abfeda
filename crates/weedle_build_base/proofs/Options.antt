-- An optional part.
use Rattle.std.proofs.Common.{◌≡◌, ℕ, List, [], ◌∷◌, refl, sym, subst, arith}
use Rattle.weedle_grammar.specs.Rows.{Row, Bytes, OneOf, NotNext, Run as RunOf, Past, Seq, First, Opt, Many, ListOf, List1, Tail, If}
use Rattle.weedle_grammar.specs.Trees.{Tree, Absent, Present, Fails, Gives}
use Rattle.weedle_grammar.specs.Meaning.{Shape, Silent, Marked, Kept, Line, Joined, Inner, Plain, ReadsRow, by_row, by_opt, opted}
use Rattle.weedle_grammar.specs.written.Table.{webidl, row_of, shape_of, Reads}
use Rattle.weedle_build_base.specs.Fits.{fits_option}
use Rattle.weedle_build_base.specs.Built.{Builds, Visits}

fits_option_is : (F : ℕ → Type 0) (row : Row) (shape : Shape) (y : ℕ) → row ≡ Opt y → fits_option F row shape → F y × (shape ≡ Plain)
fits_option_is F (Opt x) Plain y e f = (let h : x ≡ y = cc in subst F h f, refl)
fits_option_is F (Opt x) Silent y e f = absurd f
fits_option_is F (Opt x) Marked y e f = absurd f
fits_option_is F (Opt x) (Kept k) y e f = absurd f
fits_option_is F (Opt x) Line y e f = absurd f
fits_option_is F (Opt x) Joined y e f = absurd f
fits_option_is F (Opt x) Inner y e f = absurd f
fits_option_is F (Seq parts) shape y e f = cc
fits_option_is F (If parts k z) shape y e f = cc
fits_option_is F (Bytes b) shape y e f = cc
fits_option_is F (OneOf c) shape y e f = cc
fits_option_is F (NotNext c) shape y e f = cc
fits_option_is F (RunOf c) shape y e f = cc
fits_option_is F (Past b) shape y e f = cc
fits_option_is F (First ps) shape y e f = cc
fits_option_is F (Many x) shape y e f = cc
fits_option_is F (ListOf x t) shape y e f = cc
fits_option_is F (List1 x t) shape y e f = cc
fits_option_is F (Tail x s) shape y e f = cc

-- the item of an option's rule fits the option's type
pub option_fits : (F : ℕ → Type 0) (r : ℕ) {y : ℕ} → fits_option F (row_of r) (shape_of r) → Opt y ≡ row_of r → F y × (shape_of r ≡ Plain)
option_fits F r {y} f e = fits_option_is F (row_of r) (shape_of r) y (sym e) f

pub option_some : {text : List ℕ} {x r p v q w e z : ℕ} {t : Tree} → row_of r ≡ Opt x → shape_of r ≡ Plain → Builds text x t p v q w → Visits q w e z
    → Builds text r (Present t) p v e z
option_some {text} {x} {r} {p} {v} {q} {w} {e} {z} {t} row shape g n = record {
  reads = by_row (subst (λ row. ReadsRow webidl text row p (opted p (Gives (t ∷ []) q))) (sym row) (by_opt g.reads refl)) (rw (row, shape, n.same) refl);
  counts = omega (arith, n.counts, g.counts);
}

pub option_none : {text : List ℕ} {x r p v e z : ℕ} → row_of r ≡ Opt x → shape_of r ≡ Plain → Reads text x p Fails → Visits p v e z → Builds text r Absent p v e z
option_none {text} {x} {r} {p} {v} {e} {z} row shape d n = record {
  reads = by_row (subst (λ row. ReadsRow webidl text row p (opted p Fails)) (sym row) (by_opt d refl)) (rw (row, shape, n.same) refl);
  counts = n.counts;
}

-- The first alternative that fits.
use Rattle.std.proofs.Common.{◌≡◌, ℕ, suc, ◌+◌, ◌<◌, List, [], ◌∷◌, length, drop, get_or, slice_get, Some, None, true, refl, sym, subst, ap, ◌∙◌, arith, inl, inr}
use Rattle.std.specs.Prelude.{IsUtf8, IsCharBoundary}
use Rattle.std.proofs.lemmas.Option.{slice_get_within, get_or_from_slice_get}
use Rattle.weedle_grammar.specs.Rows.{Row, Bytes, OneOf, NotNext, Run as RunOf, Past, Seq, First, Opt, Many, ListOf, List1, Tail, If}
use Rattle.weedle_grammar.specs.Trees.{Tree, Alt, Outcome, Fails, Gives}
use Rattle.weedle_grammar.specs.Meaning.{Shape, Silent, Marked, Kept, Line, Joined, Inner, Plain, raw_of, shaped, ReadsRow, ReadsFirst, first_none, first_here, first_next, by_row, by_first}
use Rattle.weedle_grammar.specs.written.Table.{webidl, row_of, shape_of, Reads}
use Rattle.weedle_grammar.proofs.Unique.{one_outcome}
use Rattle.weedle_grammar.proofs.Inversion.{choice_of, of_choice}
use Rattle.weedle_rules.specs.Cells.{HasEnd}
use Rattle.weedle_build_base.specs.Fits.{firsts, is_choice}
use Rattle.weedle_starts.specs.Tries.{TriesByChoice}
use Rattle.weedle_memo.specs.Wanted.{Wanted}
use Rattle.weedle_build_base.specs.Built.{IsTried, Due, Builds, Visits, IsChosen}
use Rattle.weedle_build_base.proofs.Finding.{absent, present}
use Rattle.weedle_build_base.proofs.Sequences.{part_here, drop_none}
use Rattle.weedle_build_base.proofs.WantedFacts.{wanted_by, first_wanted, others_wanted}

-- the alternatives before number i don't fit, and one from there on does
pub record Choosing (text parts : List ℕ) (p i : ℕ) : Type 0 where
  pub given : List Tree
  pub end : ℕ
  pub left : ReadsFirst webidl text (drop i parts) i p (Gives given end)
  pub whole : (o : Outcome) → ReadsFirst webidl text (drop i parts) i p o → ReadsFirst webidl text parts 0 p o
  pub wanted : (x q : ℕ) → TriesByChoice text (drop i parts) p x q → Wanted text x q
  pub utf8 : IsUtf8 text
  pub boundary : IsCharBoundary text p

start_from : {text parts : List ℕ} {p e : ℕ} {ts : List Tree} (shape : Shape) (row : Row) (o : Outcome) → ((x q : ℕ) → TriesByChoice text parts p x q → Wanted text x q) → IsUtf8 text → IsCharBoundary text p
    → ReadsFirst webidl text parts 0 p o → Gives ts e ≡ shaped text row shape p (raw_of o) → Choosing text parts p 0
start_from shape row Fails a u b d h = cc
start_from shape row (Gives us q) a u b d h = record { given = us; end = q; left = d; whole = λ o d. d; wanted = a; utf8 = u; boundary = b }

-- at first
pub choosing_start : {text parts : List ℕ} {r p : ℕ} → Due text r p → First parts ≡ row_of r → Choosing text parts p 0
choosing_start {text} {parts} {r} {p} d e =
    let c = choice_of (sym e) d.reads in start_from {text = text} {parts = parts} {p = p} (shape_of r) (First parts) c.0 (λ x q k. wanted_by d (sym e) k) d.utf8 d.boundary c.1 c.2

module _ {text parts : List ℕ} {p i : ℕ} (h : Choosing text parts p i) {x : ℕ} (at : slice_get parts i ≡ Some x) where
  split : ReadsFirst webidl text (x ∷ drop (i + 1) parts) i p (Gives h.given h.end)
  split = subst (λ ys. ReadsFirst webidl text ys i p (Gives h.given h.end)) (part_here parts i at) h.left

  back : (o : Outcome) → ReadsFirst webidl text (x ∷ drop (i + 1) parts) i p o → ReadsFirst webidl text parts 0 p o
  back o d = h.whole o (subst (λ ys. ReadsFirst webidl text ys i p o) (sym (part_here parts i at)) d)

  numbered : (o : Outcome) → ReadsFirst webidl text (drop (i + 1) parts) (suc i) p o → ReadsFirst webidl text (drop (i + 1) parts) (i + 1) p o
  numbered o d = let q : suc i ≡ i + 1 = omega arith in subst (λ j. ReadsFirst webidl text (drop (i + 1) parts) j p o) q d

  unnumbered : (o : Outcome) → ReadsFirst webidl text (drop (i + 1) parts) (i + 1) p o → ReadsFirst webidl text (drop (i + 1) parts) (suc i) p o
  unnumbered o d = let q : i + 1 ≡ suc i = omega arith in subst (λ j. ReadsFirst webidl text (drop (i + 1) parts) j p o) q d

  -- it is tried
  pub choosing_tried : IsTried text x p
  choosing_tried = record { wanted = first_wanted parts i at h.wanted; utf8 = h.utf8; boundary = h.boundary }

  -- an alternative that fails is passed
  pub choosing_next : HasEnd text x p None → Choosing text parts p (i + 1)
  choosing_next e =
      let f = absent e in
      elim (of_choice split) [
        | inl g ↦ absurd (let s = one_outcome f g.2 refl in cc)
        | inr g ↦ record {
          given = h.given;
          end = h.end;
          left = numbered _ g.1;
          whole = λ o d. back o (first_next f (unnumbered o d));
          wanted = others_wanted parts i at h.wanted f;
          utf8 = h.utf8;
          boundary = h.boundary;
        }
      ]

  -- one that doesn't fail is chosen
  pub choosing_here : {r e : ℕ} → First parts ≡ row_of r → shape_of r ≡ Plain → HasEnd text x p (Some e) → IsChosen text r p i
  choosing_here {r} {e} row shape f =
      let ps : firsts (row_of r) ≡ parts = sym (ap firsts row) in
      let n : get_or (firsts (row_of r)) i 0 ≡ x = ap (λ ys. get_or ys i 0) ps ∙ get_or_from_slice_get parts i x 0 at in
      let w : i < length parts = slice_get_within parts i x at in
      record {
        below = subst (λ ys. i < length ys) (sym ps) w;
        due = subst (λ y. Due text y p) (sym n) (present choosing_tried f);
        gives = λ t q d.
            let g : ReadsFirst webidl text parts 0 p (Gives (Alt i t ∷ []) q) = back _ (first_here (subst (λ y. Reads text y p (Gives (t ∷ []) q)) n d) refl) in
            by_row (subst (λ row. ReadsRow webidl text row p (raw_of (Gives (Alt i t ∷ []) q))) row (by_first g refl)) (rw (shape, sym row) refl);
      }

no_choice : {text : List ℕ} {i p e : ℕ} {ts : List Tree} → ReadsFirst webidl text [] i p (Gives ts e) → ⊥
no_choice (first_none e) = cc

-- one of them is chosen
pub choosing_end : {text parts : List ℕ} {p i : ℕ} → Choosing text parts p i → slice_get parts i ≡ None → ⊥
choosing_end {text} {parts} {p} {i} h e = no_choice (subst (λ ys. ReadsFirst webidl text ys i p (Gives h.given h.end)) (drop_none parts i e) h.left)

pub choice_shape : (row : Row) (shape : Shape) → is_choice row shape ≡ true → shape ≡ Plain
choice_shape (First ps) Plain h = refl
choice_shape (First ps) Silent h = cc
choice_shape (First ps) Marked h = cc
choice_shape (First ps) (Kept k) h = cc
choice_shape (First ps) Line h = cc
choice_shape (First ps) Joined h = cc
choice_shape (First ps) Inner h = cc
choice_shape (Seq xs) shape h = cc
choice_shape (If xs k y) shape h = cc
choice_shape (Bytes b) shape h = cc
choice_shape (OneOf c) shape h = cc
choice_shape (NotNext c) shape h = cc
choice_shape (RunOf c) shape h = cc
choice_shape (Past b) shape h = cc
choice_shape (Opt x) shape h = cc
choice_shape (Many x) shape h = cc
choice_shape (ListOf x t) shape h = cc
choice_shape (List1 x t) shape h = cc
choice_shape (Tail x s) shape h = cc

-- what was built of the alternative is what was built of the rule
pub chosen : {text : List ℕ} {r p v i q w e z : ℕ} {t : Tree} → IsChosen text r p i → Builds text (get_or (firsts (row_of r)) i 0) t p v q w → Visits q w e z
    → Builds text r (Alt i t) p v e z
chosen {text} {r} {p} {v} {i} {q} {w} {e} {z} {t} c g n = record {
  reads = subst (λ y. Reads text r p (Gives (Alt i t ∷ []) y)) (sym n.same) (c.gives t q g.reads);
  counts = omega (arith, n.counts, g.counts);
}

-- The text that a rule keeps of one of its parts.
use Rattle.std.proofs.Common.{◌≡◌, ℕ, suc, ◌+◌, ◌≤◌, ◌<◌, List, [], ◌∷◌, length, drop, slice_get, Option, Some, None, true, refl, sym, subst, ap, ◌∙◌, arith, inl, inr, length-drop}
use Rattle.std.specs.Prelude.{IsUtf8, IsCharBoundary, nat_eq, nat_lt}
use Rattle.std.proofs.lemmas.Bool.{eqb-true, ltb-true}
use Rattle.weedle_grammar.proofs.Leaves.{both}
use Rattle.weedle_grammar.specs.Rows.{Row, Bytes, OneOf, NotNext, Run as RunOf, Past, Seq, First, Opt, Many, ListOf, List1, Tail, If}
use Rattle.weedle_grammar.specs.Trees.{Tree, Text, Gives}
use Rattle.weedle_grammar.specs.Meaning.{Shape, Silent, Marked, Kept, Line, Joined, Inner, Plain, Piece, piece, together, with_piece, ends_of, last_end, kept, between, shaped, ReadsSeq}
use Rattle.weedle_grammar.specs.written.Table.{webidl, row_of, shape_of, Reads}
use Rattle.weedle_grammar.proofs.Unique.{one_outcome}
use Rattle.weedle_grammar.proofs.Inversion.{parts_of, of_parts}
use Rattle.weedle_grammar.proofs.Exists.{grows}
use Rattle.weedle_grammar.proofs.GrammarFacts.{at_boundary}
use Rattle.weedle_starts.specs.Tries.{TriesInTurn}
use Rattle.weedle_memo.specs.Wanted.{Wanted}
use Rattle.weedle_build_base.specs.Fits.{list_of, is_kept}
use Rattle.weedle_build_base.specs.Built.{plus, Due, Found, Builds}
use Rattle.weedle_build_base.proofs.Sequences.{part_here, drop_none}
use Rattle.weedle_build_base.proofs.WantedFacts.{wanted_by, part_wanted, parts_wanted}

-- part i of the rule begins at start, and the text of part i + j is kept
pub record Keeping (text : List ℕ) (r p i j start : ℕ) : Type 0 where
  pub pieces : List Piece
  pub left : ReadsSeq webidl text (drop i (list_of (row_of r))) start (Some pieces)
  pub end : ℕ
  pub whole : Reads text r p (Gives (Text (kept text start (ends_of pieces) j) ∷ []) end)
  pub room : i + j < length (list_of (row_of r))
  pub wanted : (x q : ℕ) → TriesInTurn text (drop i (list_of (row_of r))) start x q → Wanted text x q
  pub utf8 : IsUtf8 text
  pub boundary : IsCharBoundary text start

is_kept_is : (k : ℕ) (row : Row) (shape : Shape) → is_kept k row shape ≡ true → (row ≡ Seq (list_of row)) × (shape ≡ Kept k) × (k < length (list_of row))
is_kept_is k (Seq parts) (Kept j) h = let b = both (nat_eq j k) (nat_lt k (length parts)) h in let e : j ≡ k = eqb-true j k b.0 in (refl, ap Kept e, omega (arith, ltb-true, b.1))
is_kept_is k (Seq parts) Silent h = cc
is_kept_is k (Seq parts) Marked h = cc
is_kept_is k (Seq parts) Line h = cc
is_kept_is k (Seq parts) Joined h = cc
is_kept_is k (Seq parts) Inner h = cc
is_kept_is k (Seq parts) Plain h = cc
is_kept_is k (If xs j y) shape h = cc
is_kept_is k (Bytes b) shape h = cc
is_kept_is k (OneOf c) shape h = cc
is_kept_is k (NotNext c) shape h = cc
is_kept_is k (RunOf c) shape h = cc
is_kept_is k (Past b) shape h = cc
is_kept_is k (First ps) shape h = cc
is_kept_is k (Opt x) shape h = cc
is_kept_is k (Many x) shape h = cc
is_kept_is k (ListOf x t) shape h = cc
is_kept_is k (List1 x t) shape h = cc
is_kept_is k (Tail x s) shape h = cc

start_from : {text : List ℕ} {r p k end : ℕ} {given : List Tree} (row : Row) (shape : Shape) (o : Option (List Piece)) → shape ≡ Kept k → k < length (list_of (row_of r)) → ((x q : ℕ) → TriesInTurn text (list_of (row_of r)) p x q → Wanted text x q) → IsUtf8 text → IsCharBoundary text p
    → ReadsSeq webidl text (list_of (row_of r)) p o → Gives given end ≡ shaped text row shape p (together p o) → Reads text r p (Gives given end) → Keeping text r p 0 k p
start_from row shape None s b a u c d h w = cc
start_from {text} {r} {p} {k} {end} {given} row shape (Some ps) s b a u c d h w =
    let e : Gives given end ≡ Gives (Text (kept text p (ends_of ps) k) ∷ []) (last_end p ps) = h ∙ ap (λ z. shaped text row z p (together p (Some ps))) s in
    record { pieces = ps; left = d; end = last_end p ps; whole = subst (Reads text r p) e w; room = omega arith; wanted = a; utf8 = u; boundary = c }

pub keeping_start : {text : List ℕ} {r p k : ℕ} → Due text r p → is_kept k (row_of r) (shape_of r) ≡ true → Keeping text r p 0 k p
keeping_start {text} {r} {p} {k} d t =
    let s = is_kept_is k (row_of r) (shape_of r) t in
    let h = parts_of s.0 d.reads in
    start_from {text = text} {r = r} {p = p} {k = k} (Seq (list_of (row_of r))) (shape_of r) h.0 s.1 s.2 (λ x q m. wanted_by d s.0 m) d.utf8 d.boundary h.1 h.2 d.reads

module _ {text : List ℕ} {r p i j start : ℕ} (h : Keeping text r p i j start) where
  pub part_is_there : slice_get (list_of (row_of r)) i ≡ None → ⊥
  part_is_there e = let z : length (drop i (list_of (row_of r))) ≡ 0 = ap length (drop_none (list_of (row_of r)) i e) in let a = h.room in omega (arith, length-drop i (list_of (row_of r)))

  module _ {x : ℕ} (at : slice_get (list_of (row_of r)) i ≡ Some x) where
    split : ReadsSeq webidl text (x ∷ drop (i + 1) (list_of (row_of r))) start (Some h.pieces)
    split = subst (λ ys. ReadsSeq webidl text ys start (Some h.pieces)) (part_here (list_of (row_of r)) i at) h.left

    pub part_due : Due text x start
    part_due = elim (of_parts split) [
      | inl f ↦ absurd (let e = f.1 in cc)
      | inr m ↦ record { given = m.0; end = m.1; reads = m.3; wanted = part_wanted (list_of (row_of r)) i at h.wanted; utf8 = h.utf8; boundary = h.boundary }
    ]

    module _ {stop : ℕ} (f : Found text x start stop) where
      pub stop_boundary : IsCharBoundary text stop
      stop_boundary = at_boundary text x start h.utf8 h.boundary f.given stop f.reads

      pub stop_after : start ≤ stop
      stop_after = grows webidl text f.reads

      first_piece : (o : Option (List Piece)) (ts : List Tree) → Some h.pieces ≡ with_piece (piece ts stop) o → ReadsSeq webidl text (drop (i + 1) (list_of (row_of r))) stop o
          → (ps : List Piece) × (h.pieces ≡ piece ts stop ∷ ps) × ReadsSeq webidl text (drop (i + 1) (list_of (row_of r))) stop (Some ps)
      first_piece None ts e d = cc
      first_piece (Some ps) ts e d = (ps, cc, d)

      opened : (ts : List Tree) × ((ps : List Piece) × (h.pieces ≡ piece ts stop ∷ ps) × ReadsSeq webidl text (drop (i + 1) (list_of (row_of r))) stop (Some ps))
      opened = elim (of_parts split) [
        | inl f ↦ absurd (let e = f.1 in cc)
        | inr m ↦ (let s = one_outcome m.3 f.reads refl in
            let q : m.1 ≡ stop = cc in
            (m.0, first_piece m.2 m.0 (subst (λ z. Some h.pieces ≡ with_piece (piece m.0 z) m.2) q m.5) (subst (λ z. ReadsSeq webidl text (drop (i + 1) (list_of (row_of r))) z m.2) q m.4)))
      ]

      -- the next part
      pub keeping_next : {k : ℕ} → j ≡ suc k → Keeping text r p (i + 1) k stop
      keeping_next {k} e =
          let o = opened in
          record {
            pieces = o.1.0;
            left = o.1.2;
            end = h.end;
            whole = subst (λ n. Reads text r p (Gives (Text (kept text start (ends_of (piece o.0 stop ∷ o.1.0)) n) ∷ []) h.end)) e
                (subst (λ ps. Reads text r p (Gives (Text (kept text start (ends_of ps) j) ∷ []) h.end)) o.1.1 h.whole);
            room = let a = h.room in omega (arith, e);
            wanted = parts_wanted (list_of (row_of r)) i at h.wanted (f.given, f.reads);
            utf8 = h.utf8;
            boundary = stop_boundary;
          }

      -- the part that is kept
      pub keeping_end : {v w end : ℕ} {bytes : List ℕ} → j ≡ 0 → Found text r p end → bytes ≡ between text start stop → w ≡ plus v 1 → Builds text r (Text bytes) p v end w
      keeping_end {v} {w} {end} {bytes} e g b c =
          let o = opened in
          let a : Reads text r p (Gives (Text (between text start stop) ∷ []) h.end) = subst (λ n. Reads text r p (Gives (Text (kept text start (ends_of (piece o.0 stop ∷ o.1.0)) n) ∷ []) h.end)) e
          (subst (λ ps. Reads text r p (Gives (Text (kept text start (ends_of ps) j) ∷ []) h.end)) o.1.1 h.whole) in
          let s = one_outcome a g.reads refl in
          let q : h.end ≡ end = cc in
          record { reads = subst (λ z. Reads text r p (Gives (Text bytes ∷ []) z)) q (subst (λ z. Reads text r p (Gives (Text z ∷ []) h.end)) (sym b) a); counts = c }

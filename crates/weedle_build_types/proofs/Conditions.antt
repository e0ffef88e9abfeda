-- A row whose last part is only where another was there.
use Rattle.std.proofs.Common.{◌≡◌, ℕ, ◌+◌, List, [], ◌∷◌, ◌++◌, true, false, refl, sym, subst, ap, ◌∙◌, arith, inl, inr, min, Some}
use Rattle.std.specs.Prelude.{IsUtf8, IsCharBoundary}
use Rattle.weedle_grammar.specs.Rows.{If}
use Rattle.weedle_grammar.specs.Trees.{Tree, trees, Node, Absent, Outcome, Fails, Gives}
use Rattle.weedle_grammar.specs.Meaning.{Plain, Piece, piece, Raw, Breaks, Yields, before, raw_of, shaped, gave_some, ReadsRow, ReadsSeq, if_absent, if_present, seq_end, seq_more, by_row, given_of, last_end}
use Rattle.weedle_grammar.specs.written.Table.{webidl, row_of, shape_of, Reads}
use Rattle.weedle_grammar.specs.Size.{size, sizes}
use Rattle.weedle_grammar.proofs.Unique.{one_seq}
use Rattle.weedle_grammar.proofs.Inversion.{at_row, of_if}
use Rattle.weedle_grammar.proofs.GrammarFacts.{at_boundary}
use Rattle.weedle_memo.specs.Wanted.{Wanted}
use Rattle.weedle_build_base.specs.Built.{plus, Due, Builds, Visits}
use Rattle.weedle_build_base.proofs.WantedFacts.{wanted_by}

-- four pieces of a tree each
abbrev pub pieces_of : (t1 t2 t3 t4 : Tree) (q1 q2 q3 q4 : ℕ) → List Piece
pieces_of t1 t2 t3 t4 q1 q2 q3 q4 = piece (t1 ∷ []) q1 ∷ piece (t2 ∷ []) q2 ∷ piece (t3 ∷ []) q3 ∷ piece (t4 ∷ []) q4 ∷ []

-- four parts, and what follows them where the second was there
module _ {text : List ℕ} {a b c d p v q1 w1 q2 w2 q3 w3 q4 w4 : ℕ} {t1 t2 t3 t4 : Tree}
    (g1 : Builds text a t1 p v q1 w1) (g2 : Builds text b t2 q1 w1 q2 w2) (g3 : Builds text c t3 q2 w2 q3 w3) (g4 : Builds text d t4 q3 w3 q4 w4) where
  parts : ReadsSeq webidl text (a ∷ b ∷ c ∷ d ∷ []) p (Some (pieces_of t1 t2 t3 t4 q1 q2 q3 q4))
  parts = seq_more g1.reads (seq_more g2.reads (seq_more g3.reads (seq_more g4.reads (seq_end refl) refl) refl) refl) refl

  due_from : (r y : ℕ) (o : Outcome) (given : List Tree) (end : ℕ) (raw : Raw) → Wanted text y q4 → IsUtf8 text → IsCharBoundary text q4 → Reads text y q4 o → Gives given end ≡ shaped text (If (a ∷ b ∷ c ∷ d ∷ []) 1 y) (shape_of r) p raw
      → raw ≡ before (given_of (pieces_of t1 t2 t3 t4 q1 q2 q3 q4)) (raw_of o) → Due text y q4
  due_from r y Fails given end raw tried u k m h e = let z : raw ≡ Breaks = e in let x = h ∙ ap (shaped text (If (a ∷ b ∷ c ∷ d ∷ []) 1 y) (shape_of r) p) z in cc
  due_from r y (Gives ts e) given end raw tried u k m h z = record { given = ts; end = e; reads = m; wanted = tried; utf8 = u; boundary = k }

  module _ (there : gave_some 1 (pieces_of t1 t2 t3 t4 q1 q2 q3 q4) ≡ true) where
    -- what follows is due
    pub if_due : {r y : ℕ} → row_of r ≡ If (a ∷ b ∷ c ∷ d ∷ []) 1 y → Due text r p → Due text y q4
    if_due {r} {y} row h =
        let i = at_row row h.reads in
        let k1 = at_boundary text a p h.utf8 h.boundary (t1 ∷ []) q1 g1.reads in
        let k2 = at_boundary text b q1 h.utf8 k1 (t2 ∷ []) q2 g2.reads in
        let k3 = at_boundary text c q2 h.utf8 k2 (t3 ∷ []) q3 g3.reads in
        let k4 = at_boundary text d q3 h.utf8 k3 (t4 ∷ []) q4 g4.reads in
        elim (of_if i.1) [
          | inl f ↦ absurd (let s = one_seq f.0 parts refl in cc)
          | inr f ↦ elim f [
            | inl f ↦ absurd (let s = one_seq f.1 parts refl in let e : f.0 ≡ pieces_of t1 t2 t3 t4 q1 q2 q3 q4 = cc in let z = ap (gave_some 1) e in cc)
            | inr f ↦ (let s = one_seq f.2 parts refl in
                let e : f.0 ≡ pieces_of t1 t2 t3 t4 q1 q2 q3 q4 = cc in
                due_from r y f.1 h.given h.end i.0 (wanted_by h row (inr (q4, (pieces_of t1 t2 t3 t4 q1 q2 q3 q4, parts, there, refl), (refl, refl)))) h.utf8 k4 (subst (λ ps. Reads text y (last_end p ps) f.1) e f.4) i.2 (subst (λ ps. i.0 ≡ before (given_of ps) (raw_of f.1)) e f.5))
          ]
        ]

    -- the whole, with what follows
    pub if_there : {r y : ℕ} {t5 : Tree} {q5 w5 e z : ℕ} → row_of r ≡ If (a ∷ b ∷ c ∷ d ∷ []) 1 y → shape_of r ≡ Plain → Builds text y t5 q4 w4 q5 w5 → Visits q5 w5 e z → Builds text r (Node (trees (t1 ∷ t2 ∷ t3 ∷ t4 ∷ t5 ∷ []))) p v e z
    if_there {r} {y} {t5} {q5} {w5} {e} {z} row shape g5 n = record {
      reads = by_row (subst (λ row. ReadsRow webidl text row p (before (given_of (pieces_of t1 t2 t3 t4 q1 q2 q3 q4)) (raw_of (Gives (t5 ∷ []) q5)))) (sym row) (if_present parts there g5.reads refl)) (rw (shape, row, n.same) refl);
      counts = omega (arith, n.counts, g1.counts, g2.counts, g3.counts, g4.counts, g5.counts);
    }

  -- the whole, where nothing follows
  pub if_not_there : {r y e z e' z' : ℕ} → gave_some 1 (pieces_of t1 t2 t3 t4 q1 q2 q3 q4) ≡ false → row_of r ≡ If (a ∷ b ∷ c ∷ d ∷ []) 1 y → shape_of r ≡ Plain → Visits q4 w4 e z → Visits e z e' z' → Builds text r (Node (trees (t1 ∷ t2 ∷ t3 ∷ t4 ∷ Absent ∷ []))) p v e' z'
  if_not_there {r} {y} {e} {z} {e'} {z'} gone row shape m n = record {
    reads = by_row (subst (λ row. ReadsRow webidl text row p (Yields (given_of (pieces_of t1 t2 t3 t4 q1 q2 q3 q4) ++ Absent ∷ []) [] q4)) (sym row) (if_absent parts gone refl)) (rw (shape, row, n.same, m.same) refl);
    counts = omega (arith, n.counts, m.counts, g1.counts, g2.counts, g3.counts, g4.counts);
  }

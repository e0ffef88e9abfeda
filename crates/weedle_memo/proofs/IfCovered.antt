-- What is known of all that a frame of a row with a condition tried.
use Rattle.std.proofs.Common.{◌≡◌, ◌≢◌, ◌⊎◌, inl, inr, ℕ, ◌+◌, ◌<◌, ◌≤◌, List, [], ◌∷◌, length, drop, Bool, Option, Some, None, true, false, refl, ap, sym, subst, ◌∙◌, arith}
use Rattle.std.specs.Prelude.{if◌then◌else◌, ◌==◌, not}
use Rattle.weedle_grammar.specs.Rows.{Row, If}
use Rattle.weedle_grammar.specs.Meaning.{Piece, ReadsSeq, gave_some, last_end}
use Rattle.weedle_grammar.specs.written.Table.{webidl, row_of}
use Rattle.weedle_grammar.proofs.Unique.{one_seq}
use Rattle.weedle_grammar.proofs.Takes.{takes}
use Rattle.weedle_rules.specs.Cells.{HasEnd}
use Rattle.weedle_rules.specs.Outcomes.{EndsAt, FailsAt}
use Rattle.weedle_rules.proofs.ConditionEnds.{NoteEnds, if_along_fails, note_at}
use Rattle.weedle_rules.proofs.RowEnds.{pieces_end}
use Rattle.weedle_rules.proofs.ListFrom.{parts_from, past_end}
use Rattle.weedle_starts.specs.Tries.{EndsWith, TriesInTurn}
use Rattle.weedle_memo.specs.Frames.{Waits, IsOpen}
use Rattle.weedle_memo.specs.Closure.{Memory, Met, MetIf, IsClosed, CoveredIn, Covered}
use Rattle.weedle_memo.proofs.ResumeFacts.{onward_by, moved}
use Rattle.weedle_memo.proofs.IfFacts.{if_here, if_done}
use Rattle.weedle_memo.proofs.CoveredFacts.{closed_by, covered_by, covered_of, in_step, in_fails, in_ends, attempted}
use Rattle.weedle_memo.specs.declared.frame.Frame.{Frame}

-- where the parts end, and whether the one that counts gave something
noted_end : {text parts : List ℕ} {k p q e : ℕ} {b : Bool} → NoteEnds webidl text (inl k) parts p (Some q) b → EndsWith text parts k p e → (q ≡ e) × (b ≡ true)
noted_end {text} {parts} {k} {p} {q} {e} {b} n (ps, d, g, z) =
    let s : n.pieces ≡ Some ps = one_seq n.reads d refl in
    let is : Some q ≡ Some (last_end p ps) = n.is ∙ ap (pieces_end p) s in
    let c : q ≡ last_end p ps = cc in
    (c ∙ sym z, sym (n.note_is ps s) ∙ g)

noted_none : {text parts : List ℕ} {k p e : ℕ} {b : Bool} → NoteEnds webidl text (inl k) parts p None b → EndsWith text parts k p e → ⊥
noted_none {text} {parts} {k} {p} {e} {b} n (ps, d, g, z) =
    let s : n.pieces ≡ Some ps = one_seq n.reads d refl in
    let is : None ≡ Some (last_end p ps) = n.is ∙ ap (pieces_end p) s in
    cc

module _ {text : List ℕ} (known : Memory) {f : Frame} {x q k y : ℕ} {parts : List ℕ} (o : IsOpen text f) (is : row_of f.rule ≡ If parts k y) (w : Waits text f x q 1) (covered : Covered text known (row_of f.rule) f q) where
  if_covered : {n : ℕ} → n ≡ length parts → f.part < n → CoveredIn text known parts f.place (x ∷ drop (f.part + 1) parts) q
  if_covered many more =
      let a = (if_here o is w many more).0 in
      subst (λ z. CoveredIn text known parts f.place z q) (parts_from parts f.part a.0 ∙ ap (λ z. z ∷ drop (f.part + 1) parts) (sym a.1)) (covered_by text known f q is covered)

  pub if_last_covered : {n : ℕ} (c : Option ℕ) → n ≡ length parts → n ≤ f.part → HasEnd text x q c → MetIf known x q c → IsClosed text known f.rule f.place
  if_last_covered {n} c many past h m = elim (onward_by is w).1 [
    | inl v ↦ (let l = v.0.0 in absurd (omega (arith, many, past)))
    | inr v ↦ closed_by text known f is (λ u z e t d. elim t [
      | inl s ↦ in_ends {p = f.place} {q = q} (subst (λ z. CoveredIn text known parts f.place z q) (past_end parts f.part (omega (arith, many, past))) (covered_by text known f q is covered)) u z e s d
      | inr (a, b, s) ↦ attempted c h m (s.0 ∙ sym v.1, s.1 ∙ sym (noted_end v.2 b).0) d
    ])
  ]

  pub if_none_covered : {n : ℕ} → n ≡ length parts → f.part < n → HasEnd text x q None → IsClosed text known f.rule f.place
  if_none_covered {n} many more h =
      let a = if_here o is w many more in
      let none = if_along_fails webidl text takes f.rule k f.place x q parts (drop (f.part + 1) parts) (note_at k f.part f.present) a.1 h in
      closed_by text known f is (λ u z e t d. elim t [
        | inl s ↦ in_fails (if_covered many more) h u z e s d
        | inr (c, b, s) ↦ absurd (noted_none none b)
      ])

  pub if_on_covered : {n : ℕ} (g : Frame) (e : ℕ) → n ≡ length parts → f.part < n → g.rule ≡ f.rule → g.place ≡ f.place → HasEnd text x q (Some e) → Met known x q → g.part ≡ f.part + 1 → Covered text known (row_of g.rule) g e
  if_on_covered g e many more gr gp h m gn = covered_of text known f g e is gr (subst (λ z. CoveredIn text known parts z (drop g.part parts) e) (sym gp) (subst (λ z. CoveredIn text known parts f.place (drop z parts) e) (sym gn) (in_step (if_covered many more) h m)))

  pub if_else_covered : {n e : ℕ} {b : Bool} → n ≡ length parts → f.part < n → HasEnd text x q (Some e) → Met known x q → b ≡ (if f.part == k then not (e == f.end) else f.present)
      → n ≤ f.part + 1 → b ≡ false → IsClosed text known f.rule f.place
  if_else_covered {n} {e} {b} many more h m chosen past lacks =
      let done = if_done o is w many more h chosen past in
      let all = subst (λ z. CoveredIn text known parts f.place z e) (past_end parts (f.part + 1) (omega (arith, many, past))) (in_step (if_covered many more) h m) in
      closed_by text known f is (λ u z v t d. elim t [
        | inl s ↦ in_ends all u z v s d
        | inr (c, a, s) ↦ absurd (let t : b ≡ true = (noted_end done a).1 in let f : false ≡ true = sym lacks ∙ t in cc)
      ])

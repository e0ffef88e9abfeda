-- What a rule takes whose last part is read only where another was there.
use Rattle.std.proofs.Common.{◌≡◌, inl, inr, ℕ, zero, suc, List, [], ◌∷◌, ◌++◌, Bool, true, false, Some, refl, sym, ap, ◌∙◌, subst}
use Rattle.std.proofs.lemmas.List.{same_from_push}
use Rattle.weedle_grammar.proofs.Inversion.{of_if}
use Rattle.weedle_grammar.proofs.Leaves.{both}
use Rattle.weedle_grammar.specs.Meaning.{Plain, Piece, Yields, ReadsRow, ReadsSeq, raw_of, before, given_of, last_end, gave_some, is_present}
use Rattle.weedle_grammar.specs.Rows.{If}
use Rattle.weedle_grammar.specs.written.Table.{webidl, row_of, shape_of, Reads}
use Rattle.weedle_grammar.specs.Trees.{Tree, Node, Absent, trees, Outcome, Fails, Gives}
use Rattle.weedle_spell.specs.Forms.{Form, ◌then◌}
use Rattle.weedle_grammar.proofs.OneTree.{is_single, all_single, gives_one}
use Rattle.weedle_spell.proofs.Given.{gave, pieced, unpieced}
use Rattle.weedle_spell.proofs.Spelt.{Spelt, SpeltParts, same_node}
use Rattle.weedle_spell.proofs.Took.{Taken, nothing_taken, taken_then}

-- tree k is that of an optional part that was there
abbrev pub present_at : ℕ → List Tree → Bool
present_at k [] = false
present_at zero (t ∷ ts) = is_present (t ∷ [])
present_at (suc k) (t ∷ ts) = present_at k ts

gave_present : {text : List ℕ} (rs : List ℕ) {p : ℕ} {pieces : List Piece} (ts : List Tree) (k : ℕ) → ReadsSeq webidl text rs p (Some pieces) → all_single rs ≡ true
    → given_of pieces ≡ ts → gave_some k pieces ≡ present_at k ts
gave_present [] ts k d s e = let n = unpieced d in ap (gave_some k) n ∙ ap (present_at k) (ap given_of (sym n) ∙ e)
gave_present (r ∷ rs) ts zero d s e =
    let x = pieced d in
    let one = gives_one (both _ _ s).0 x.3 in
    let h : one.0 ∷ given_of x.2 ≡ ts = ap (λ (us : List Tree). us ++ given_of x.2) (sym one.1) ∙ ap given_of (sym x.5) ∙ e in
    ap (gave_some zero) x.5 ∙ ap is_present one.1 ∙ ap (present_at zero) h
gave_present (r ∷ rs) ts (suc k) d s e =
    let x = pieced d in
    let one = gives_one (both _ _ s).0 x.3 in
    let h : one.0 ∷ given_of x.2 ≡ ts = ap (λ (us : List Tree). us ++ given_of x.2) (sym one.1) ∙ ap given_of (sym x.5) ∙ e in
    ap (gave_some (suc k)) x.5 ∙ gave_present rs (given_of x.2) k x.4 (both _ _ s).1 refl ∙ ap (present_at (suc k)) h

-- what the last part gave
abbrev LastGave : List ℕ → ℕ → ℕ → ℕ → List Tree → List Tree → Type 0
LastGave text y q e given us = (vs : List Tree) × Reads text y q (Gives vs e) × (us ≡ given ++ vs)

last_gave : {text : List ℕ} {y q e : ℕ} {us : List Tree} {zs : List ℕ} (given : List Tree) (o : Outcome) → Reads text y q o → Yields us zs e ≡ before given (raw_of o) → LastGave text y q e given us
last_gave given Fails d h = cc
last_gave {text} {y} {q} {e} given (Gives vs z) d h = let x : z ≡ e = cc in (vs, subst (λ (k : ℕ). Reads text y q (Gives vs k)) x d, cc)

module _ {L : Type 0} {k y : ℕ} {rs : List ℕ} {ts : List Tree} {t : Tree} {A B : Form} (single : all_single rs ≡ true) (last_single : is_single y ≡ true) (parts : SpeltParts L rs ts A)
    (absent : present_at k ts ≡ false → t ≡ Absent → B []) (present : present_at k ts ≡ true → Spelt L y t B) where
  if_of : {text : List ℕ} {p e : ℕ} {us : List Tree} {zs : List ℕ} → ReadsRow webidl text (If rs k y) p (Yields us zs e) → us ≡ ts ++ t ∷ [] → Taken L text p e (A then B)
  if_of {text} {p} {e} {us} {zs} d i = elim (of_if d) [
    | inl h ↦ cc
    | inr m ↦ elim m [
      | inl h ↦ (let z : last_end p h.0 ≡ e = cc in
          let g : us ≡ given_of h.0 ++ Absent ∷ [] = cc in
          let same = same_from_push (given_of h.0) ts Absent t (sym g ∙ i) in
          taken_then (parts.of text p h.0 h.1 same.0) (nothing_taken (absent (sym (gave_present rs ts k h.1 single same.0) ∙ h.2) (sym same.1)) z))
      | inr h ↦ (let l = last_gave (given_of h.0) h.1 h.4 h.5 in
          let one = gives_one last_single l.1 in
          let same = same_from_push (given_of h.0) ts one.0 t (ap (λ (vs : List Tree). given_of h.0 ++ vs) (sym one.1) ∙ sym l.2 ∙ i) in
          let s = present (sym (gave_present rs ts k h.2 single same.0) ∙ h.3) in
          taken_then (parts.of text p h.0 h.2 same.0)
          (s.of text (last_end p h.0) e (subst (λ (vs : List Tree). Reads text y (last_end p h.0) (Gives vs e)) (one.1 ∙ ap (λ (u : Tree). u ∷ []) same.1) l.1)))
    ]
  ]

  -- parts, and one that is read only where part k was there
  pub if_spelt : {r : ℕ} → row_of r ≡ If rs k y → shape_of r ≡ Plain → Spelt L r (Node (trees (ts ++ t ∷ []))) (A then B)
  if_spelt row shape = record {
    single = rw (shape, row) refl;
    of = λ text p e d. let g = gave row d in if_of g.2 (same_node (rw shape at g.3));
  }

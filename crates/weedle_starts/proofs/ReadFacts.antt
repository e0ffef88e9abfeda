-- What a rule that was read has read, by its row.
use Rattle.std.proofs.Common.{◌≡◌, ◌⊎◌, inl, inr, ℕ, ◌<◌, ◌≤◌, List, ◌∷◌, length, true, false, Option, Some, None, subst, ◌∙◌, ap, arith}
use Rattle.weedle_grammar.specs.Rows.{Seq, First, Opt, Many, ListOf, List1, Tail, If}
use Rattle.weedle_grammar.specs.Trees.{Tree, Outcome, Fails, Gives}
use Rattle.weedle_grammar.specs.Meaning.{Piece, piece, with_piece, last_end, opted, raw_of, together, gave_some, given_of, ReadsRow, ReadsSeq, ReadsFirst}
use Rattle.weedle_grammar.specs.written.Table.{webidl, row_of, Reads}
use Rattle.weedle_grammar.proofs.Inversion.{of_parts, of_seq, of_first, of_opt, of_many, of_list, of_list1, of_tail, of_if}
use Rattle.weedle_grammar.proofs.Exists.{grows, stays_inside}
use Rattle.weedle_rules.specs.Cells.{end_of}
use Rattle.weedle_rules.proofs.RowEnds.{row_ends, rule_ends, raw_end, raw_of_end, before_end}
use Rattle.weedle_rules.specs.Outcomes.{EndsAt, FailsAt}
use Rattle.weedle_rules.proofs.OutcomeFacts.{it_ends, has_end, one_end, not_both}

module _ {text : List ℕ} {r p q : ℕ} where
  pub ends_inside : EndsAt text r p q → p ≤ length text → q ≤ length text
  ends_inside h l = stays_inside webidl text h.1 l

  pub ends_after : EndsAt text r p q → p ≤ q
  ends_after h = grows webidl text h.1

-- an outcome that ends at a place
pub ended : (text : List ℕ) (r p e : ℕ) (o : Outcome) → Reads text r p o → Some e ≡ end_of o → EndsAt text r p e
ended text r p e o d h = it_ends (record { outcome = o; reads = d; is = h })

-- the rules are read one after another
abbrev pub AreRead : List ℕ → List ℕ → ℕ → Type 0
AreRead text rs p = (pieces : List Piece) × ReadsSeq webidl text rs p (Some pieces)

left_over : (text rs : List ℕ) (q : ℕ) (ts : List Tree) (pieces : List Piece) (v : Option (List Piece)) → ReadsSeq webidl text rs q v → Some pieces ≡ with_piece (piece ts q) v → AreRead text rs q
left_over text rs q ts pieces None m e = cc
left_over text rs q ts pieces (Some qs) m e = (qs, m)

pub first_part : (text : List ℕ) (r : ℕ) (rs : List ℕ) (p : ℕ) → AreRead text (r ∷ rs) p → (q : ℕ) × EndsAt text r p q × AreRead text rs q
first_part text r rs p (pieces, d) = elim (of_parts d) [
  | inl k ↦ (let e = k.1 in let n : ⊥ = cc in absurd n)
  | inr (ts, q, v, given, more, h) ↦ (q, (ts, given), left_over text rs q ts pieces v more h)
]

some_pieces : (text : List ℕ) (p e : ℕ) (parts : List ℕ) (o : Option (List Piece)) → ReadsSeq webidl text parts p o → Some e ≡ raw_end (together p o) → AreRead text parts p
some_pieces text p e parts None d h = cc
some_pieces text p e parts (Some ps) d h = (ps, d)

some_fits : (text rs : List ℕ) (p e : ℕ) (o : Outcome) → ReadsFirst webidl text rs 0 p o → Some e ≡ end_of o → (ts : List Tree) × ReadsFirst webidl text rs 0 p (Gives ts e)
some_fits text rs p e Fails d h = cc
some_fits text rs p e (Gives ts q) d h = let n : q ≡ e = cc in (ts, subst (λ z. ReadsFirst webidl text rs 0 p (Gives ts z)) n d)

optional_part : (text : List ℕ) (y p e : ℕ) (o : Outcome) → Reads text y p o → Some e ≡ raw_end (opted p o) → (FailsAt text y p × (e ≡ p)) ⊎ EndsAt text y p e
optional_part text y p e Fails d h = inl (d, cc)
optional_part text y p e (Gives ts q) d h = inr (ended text y p e (Gives ts q) d h)

-- of a row with a condition: the parts alone, or the rule y behind them
abbrev pub IfReads : List ℕ → List ℕ → ℕ → ℕ → ℕ → ℕ → Type 0
IfReads text parts k y p e =
    (pieces : List Piece) × ReadsSeq webidl text parts p (Some pieces)
    × (((gave_some k pieces ≡ false) × (e ≡ last_end p pieces)) ⊎ ((gave_some k pieces ≡ true) × EndsAt text y (last_end p pieces) e))

module _ (text : List ℕ) (r p e : ℕ) (d : EndsAt text r p e) where
  pub seq_reads : {parts : List ℕ} → row_of r ≡ Seq parts → AreRead text parts p
  seq_reads {parts} is =
      let m = row_ends is (has_end d) in
      let o = of_seq m.reads in
      some_pieces text p e parts o.0 o.1 (m.is ∙ ap raw_end o.2)

  pub first_reads : {parts : List ℕ} → row_of r ≡ First parts → (ts : List Tree) × ReadsFirst webidl text parts 0 p (Gives ts e)
  first_reads {parts} is =
      let m = row_ends is (has_end d) in
      let o = of_first m.reads in
      some_fits text parts p e o.0 o.1 (m.is ∙ ap raw_end o.2 ∙ raw_of_end o.0)

  pub opt_reads : {y : ℕ} → row_of r ≡ Opt y → (FailsAt text y p × (e ≡ p)) ⊎ EndsAt text y p e
  opt_reads {y} is =
      let m = row_ends is (has_end d) in
      let o = of_opt m.reads in
      optional_part text y p e o.0 o.1 (m.is ∙ ap raw_end o.2)

  pub list_reads : {y t : ℕ} → row_of r ≡ ListOf y t → (FailsAt text y p × (e ≡ p)) ⊎ ((q : ℕ) × EndsAt text y p q × EndsAt text t q e)
  list_reads {y} {t} is =
      let m = row_ends is (has_end d) in
      elim (of_list m.reads) [
        | inl k ↦ inl (k.0, (let a = m.is ∙ ap raw_end k.1 in cc))
        | inr (ts, q, o, given, more, w) ↦ inr (q, (ts, given), ended text t q e o more (m.is ∙ ap raw_end w ∙ before_end ts (raw_of o) ∙ raw_of_end o))
      ]

  pub list1_reads : {y t : ℕ} → row_of r ≡ List1 y t → (FailsAt text y p × (e ≡ p)) ⊎ ((q : ℕ) × EndsAt text y p q × EndsAt text t q e)
  list1_reads {y} {t} is =
      let m = row_ends is (has_end d) in
      elim (of_list1 m.reads) [
        | inl k ↦ absurd (let a = m.is ∙ ap raw_end k.1 in let n : ⊥ = cc in n)
        | inr (ts, q, o, given, more, w) ↦ inr (q, (ts, given), ended text t q e o more (m.is ∙ ap raw_end w ∙ before_end ts (raw_of o) ∙ raw_of_end o))
      ]

  pub list1_item : {y t : ℕ} → row_of r ≡ List1 y t → (q : ℕ) × EndsAt text y p q
  list1_item {y} {t} is =
      let m = row_ends is (has_end d) in
      elim (of_list1 m.reads) [
        | inl k ↦ absurd (let a = m.is ∙ ap raw_end k.1 in let n : ⊥ = cc in n)
        | inr (ts, q, o, given, more, w) ↦ (q, (ts, given))
      ]

  -- behind an item that is repeated, the rule goes on; without one it ends
  pub many_goes : {y z : ℕ} → row_of r ≡ Many y → EndsAt text y p z → (p < z) × EndsAt text r z e
  many_goes {y} {z} is h =
      let m = row_ends is (has_end d) in
      elim (of_many m.reads) [
        | inl k ↦ absurd (not_both k.0 h)
        | inr (inl k) ↦ absurd (let a = m.is ∙ ap raw_end k.2 in let n : ⊥ = cc in n)
        | inr (inr (ts, q, v, given, ne, more, w)) ↦ (
            let same : q ≡ z = one_end h (ts, given) in
            let after : p ≤ z = ends_after h in
            (omega (arith, ne), it_ends (rule_ends is (record { raw = v; reads = subst (λ s. ReadsRow webidl text (Many y) s v) same more; is = m.is ∙ ap raw_end w ∙ before_end ts v }))))
      ]

  pub many_stops : {y : ℕ} → row_of r ≡ Many y → FailsAt text y p → e ≡ p
  many_stops is h =
      let m = row_ends is (has_end d) in
      elim (of_many m.reads) [
        | inl k ↦ (let a = m.is ∙ ap raw_end k.1 in cc)
        | inr (inl k) ↦ absurd (not_both h (k.0, k.1))
        | inr (inr (ts, q, v, given, ne, more, w)) ↦ absurd (not_both h (ts, given))
      ]

  -- the same behind a separator and an item
  pub tail_goes : {y s q z : ℕ} → row_of r ≡ Tail y s → EndsAt text s p q → EndsAt text y q z → (p < q) × EndsAt text r z e
  tail_goes {y} {s} {q} {z} is h i =
      let m = row_ends is (has_end d) in
      elim (of_tail m.reads) [
        | inl k ↦ absurd (not_both k.0 h)
        | inr (inl k) ↦ absurd (let a = m.is ∙ ap raw_end k.2 in let n : ⊥ = cc in n)
        | inr (inr (inl (ts, u, given, ne, fails, w))) ↦ absurd (not_both fails (subst (λ x. EndsAt text y x z) (one_end (ts, given) h) i))
        | inr (inr (inr (ts, us, u, x, v, given, ne, item, more, w))) ↦ (
            let same : u ≡ q = one_end h (ts, given) in
            let there : x ≡ z = one_end i (subst (λ k. EndsAt text y k x) same (us, item)) in
            let after : p ≤ q = ends_after h in
            (omega (arith, ne), it_ends (rule_ends is (record { raw = v; reads = subst (λ k. ReadsRow webidl text (Tail y s) k v) there more; is = m.is ∙ ap raw_end w ∙ before_end us v }))))
      ]

  pub tail_stops : {y s : ℕ} → row_of r ≡ Tail y s → FailsAt text s p → e ≡ p
  tail_stops is h =
      let m = row_ends is (has_end d) in
      elim (of_tail m.reads) [
        | inl k ↦ (let a = m.is ∙ ap raw_end k.1 in cc)
        | inr (inl k) ↦ absurd (not_both h (k.0, k.1))
        | inr (inr (inl (ts, u, given, ne, fails, w))) ↦ absurd (not_both h (ts, given))
        | inr (inr (inr (ts, us, u, x, v, given, ne, item, more, w))) ↦ absurd (not_both h (ts, given))
      ]

  pub tail_turns_back : {y s q : ℕ} → row_of r ≡ Tail y s → EndsAt text s p q → FailsAt text y q → e ≡ p
  tail_turns_back {y} {s} {q} is h i =
      let m = row_ends is (has_end d) in
      elim (of_tail m.reads) [
        | inl k ↦ absurd (not_both k.0 h)
        | inr (inl k) ↦ absurd (let a = m.is ∙ ap raw_end k.2 in let n : ⊥ = cc in n)
        | inr (inr (inl (ts, u, given, ne, fails, w))) ↦ (let a = m.is ∙ ap raw_end w in cc)
        | inr (inr (inr (ts, us, u, x, v, given, ne, item, more, w))) ↦ absurd (not_both i (subst (λ k. EndsAt text y k x) (one_end h (ts, given)) (us, item)))
      ]

  pub if_reads : {parts : List ℕ} {k y : ℕ} → row_of r ≡ If parts k y → IfReads text parts k y p e
  if_reads {parts} {k} {y} is =
      let m = row_ends is (has_end d) in
      elim (of_if m.reads) [
        | inl k ↦ absurd (let a = m.is ∙ ap raw_end k.1 in let n : ⊥ = cc in n)
        | inr (inl (pieces, h, g, w)) ↦ (pieces, h, inl (g, (let a = m.is ∙ ap raw_end w in cc)))
        | inr (inr (pieces, o, h, g, more, w)) ↦ (pieces, h, inr (g, ended text y (last_end p pieces) e o more (m.is ∙ ap raw_end w ∙ before_end (given_of pieces) (raw_of o) ∙ raw_of_end o)))
      ]

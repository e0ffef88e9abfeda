-- What a rule tries lies behind its place, or is a rule of a smaller number at it.
use Rattle.std.proofs.Common.{◌≡◌, inl, inr, ℕ, ◌<◌, ◌≤◌, List, [], ◌∷◌, length, Bool, true, ◌&&◌, refl, arith}
use Rattle.std.specs.Prelude.{nat_lt, ◌||◌}
use Rattle.weedle_grammar.specs.written.Bound.{rule_count}
use Rattle.weedle_grammar.specs.Rows.{Row, Bytes, OneOf, NotNext, Run, Past, Seq, First, Opt, Many, ListOf, List1, Tail, If}
use Rattle.weedle_grammar.specs.Entry.{are_rules}
use Rattle.weedle_grammar.specs.Meaning.{last_end}
use Rattle.weedle_grammar.specs.written.Table.{webidl, row_of}
use Rattle.weedle_grammar.proofs.Leaves.{both, one_of}
use Rattle.weedle_grammar.proofs.Ranked.{is_low, low_parts, all_low}
use Rattle.weedle_grammar.proofs.Takes.{takes}
use Rattle.weedle_grammar.proofs.Checked.{rank, ranked}
use Rattle.weedle_grammar.proofs.Entries.{passes}
use Rattle.weedle_grammar.proofs.Exists.{grows, stays_inside, advances, seq_grows, seq_stays_inside, seq_advances}
use Rattle.weedle_rules.proofs.PartEnds.{below}
use Rattle.weedle_rules.specs.Outcomes.{EndsAt}
use Rattle.weedle_starts.specs.Tries.{TriesInTurn, TriesByChoice, RowTries, Tries}

-- the numbers in a row are those of rules
abbrev pub names_rules : Row → Bool
names_rules (Seq parts) = are_rules parts
names_rules (First parts) = are_rules parts
names_rules (Opt x) = nat_lt x rule_count
names_rules (Many x) = nat_lt x rule_count
names_rules (ListOf x t) = nat_lt x rule_count && nat_lt t rule_count
names_rules (List1 x t) = nat_lt x rule_count && nat_lt t rule_count
names_rules (Tail x s) = nat_lt x rule_count && nat_lt s rule_count
names_rules (If parts k y) = are_rules parts && nat_lt y rule_count
names_rules (Bytes b) = true
names_rules (OneOf c) = true
names_rules (NotNext c) = true
names_rules (Run c) = true
names_rules (Past b) = true

pub named : (r : ℕ) → names_rules (row_of r) ≡ true
named = passes (λ r e. names_rules e.row) (λ n r. refl) refl

pub record IsLater (text : List ℕ) (r p x q : ℕ) : Type 0 where
  pub low : x < rule_count
  pub after : p ≤ q
  pub within : q ≤ length text
  pub smaller : q ≡ p → x < r

module _ (text : List ℕ) (r p : ℕ) (fits : p ≤ length text) (low : r < rule_count) where
  here : (x q s : ℕ) → (x ≡ s) × (q ≡ p) → nat_lt s r ≡ true → nat_lt s rule_count ≡ true → IsLater text r p x q
  here x q s i l n =
      let a : s < r = below _ _ l in
      let b : s < rule_count = below _ _ n in
      let c : x ≡ s = i.0 in
      let d : q ≡ p = i.1 in
      record { low = omega arith; after = omega arith; within = omega arith; smaller = λ h. omega arith }

  -- behind p
  there : (x q s e : ℕ) → (x ≡ s) × (q ≡ e) → p < e → e ≤ length text → s < rule_count → IsLater text r p x q
  there x q s e i l w n =
      let c : x ≡ s = i.0 in
      let d : q ≡ e = i.1 in
      record { low = omega arith; after = omega arith; within = omega arith; smaller = λ h. absurd (omega arith) }

  -- at e, where e is p only if the rule is smaller
  at_end : (x q s e : ℕ) → (x ≡ s) × (q ≡ e) → p ≤ e → e ≤ length text → nat_lt s rule_count ≡ true → (e ≡ p → nat_lt s r ≡ true) → IsLater text r p x q
  at_end x q s e i l w n h =
      let c : x ≡ s = i.0 in
      let d : q ≡ e = i.1 in
      let b : s < rule_count = below _ _ n in
      record { low = omega arith; after = omega arith; within = omega arith; smaller = λ k. (let z : e ≡ p = omega arith in let m : s < r = below _ _ (h z) in omega arith) }

  in_turn_later : (rs : List ℕ) (e : ℕ) → p ≤ e → e ≤ length text → (e ≡ p → low_parts rank takes r rs ≡ true) → are_rules rs ≡ true
      → (x q : ℕ) → TriesInTurn text rs e x q → IsLater text r p x q
  in_turn_later [] e a w l n x q t = absurd t
  in_turn_later (s ∷ rs) e a w l n x q (inl i) = at_end x q s e i a w (both _ _ n).0 (λ h. (both _ _ (l h)).0)
  in_turn_later (s ∷ rs) e a w l n x q (inr t) =
      let z = t.0 in
      let d = t.1.1 in
      let on : e ≤ z = grows webidl text d in
      let in_text : z ≤ length text = stays_inside webidl text d w in
      in_turn_later rs z (omega arith) in_text (λ h. (
      let at : e ≡ p = omega arith in
      elim (one_of _ _ (both _ _ (l at)).1) [
        | inl k ↦ absurd (let m : e < z = advances webidl text rank takes ranked d k in omega arith)
        | inr k ↦ k
      ])) (both _ _ n).1 x q t.2

  choice_later : (rs : List ℕ) → all_low rank takes r rs ≡ true → are_rules rs ≡ true → (x q : ℕ) → TriesByChoice text rs p x q → IsLater text r p x q
  choice_later [] l n x q t = absurd t
  choice_later (s ∷ rs) l n x q (inl i) = here x q s i (both _ _ l).0 (both _ _ n).0
  choice_later (s ∷ rs) l n x q (inr t) = choice_later rs (both _ _ l).1 (both _ _ n).1 x q t.1

  -- an item and what follows it
  follow_later : (y t e : ℕ) → nat_lt y r && (takes y || nat_lt t r) ≡ true → nat_lt t rule_count ≡ true → EndsAt text y p e → (x q : ℕ) → (x ≡ t) × (q ≡ e) → IsLater text r p x q
  follow_later y t e l n d x q i =
      let on : p ≤ e = grows webidl text d.1 in
      let in_text : e ≤ length text = stays_inside webidl text d.1 fits in
      at_end x q t e i on in_text n (λ h. elim (one_of _ _ (both _ _ l).1) [
        | inl k ↦ absurd (let m : p < e = advances webidl text rank takes ranked d.1 k in omega arith)
        | inr k ↦ k
      ])

  row_later : (row : Row) → is_low rank takes r row ≡ true → names_rules row ≡ true → (x q : ℕ) → RowTries text row r p x q → IsLater text r p x q
  row_later (Seq parts) l n x q t = in_turn_later parts p (omega arith) fits (λ h. l) n x q t
  row_later (First parts) l n x q t = choice_later parts l n x q t
  row_later (Opt y) l n x q t = here x q y t l n
  row_later (Many y) l n x q (inl i) = here x q y i l n
  row_later (Many y) l n x q (inr (e, d, ne, i)) =
      let on : p ≤ e = grows webidl text d.1 in
      there x q r e i (omega (arith, ne)) (stays_inside webidl text d.1 fits) low
  row_later (ListOf y s) l n x q (inl i) = here x q y i (both _ _ l).0 (both _ _ n).0
  row_later (ListOf y s) l n x q (inr (e, d, i)) = follow_later y s e l (both _ _ n).1 d x q i
  row_later (List1 y s) l n x q (inl i) = here x q y i (both _ _ l).0 (both _ _ n).0
  row_later (List1 y s) l n x q (inr (e, d, i)) = follow_later y s e l (both _ _ n).1 d x q i
  row_later (Tail y s) l n x q (inl i) = here x q s i l (both _ _ n).1
  row_later (Tail y s) l n x q (inr (e, d, ne, inl i)) =
      let on : p ≤ e = grows webidl text d.1 in
      there x q y e i (omega (arith, ne)) (stays_inside webidl text d.1 fits) (below _ _ (both _ _ n).0)
  row_later (Tail y s) l n x q (inr (e, d, ne, inr (z, f, i))) =
      let on : p ≤ e = grows webidl text d.1 in
      let more : e ≤ z = grows webidl text f.1 in
      there x q r z i (omega (arith, ne)) (stays_inside webidl text f.1 (stays_inside webidl text d.1 fits)) low
  row_later (If parts k y) l n x q (inl t) = in_turn_later parts p (omega arith) fits (λ h. (both _ _ l).0) (both _ _ n).0 x q t
  row_later (If parts k y) l n x q (inr (e, (pieces, d, g, z), i)) =
      let on : p ≤ last_end p pieces = seq_grows webidl text d in
      let in_text : last_end p pieces ≤ length text = seq_stays_inside webidl text d fits in
      at_end x q y e i (omega arith) (omega arith) (both _ _ n).1 (λ h. elim (one_of _ _ (both _ _ l).1) [
        | inl t ↦ absurd (let m : p < last_end p pieces = seq_advances webidl text rank takes ranked d t in omega arith)
        | inr t ↦ t
      ])
  row_later (Bytes b) l n x q t = absurd t
  row_later (OneOf c) l n x q t = absurd t
  row_later (NotNext c) l n x q t = absurd t
  row_later (Run c) l n x q t = absurd t
  row_later (Past b) l n x q t = absurd t

  pub tries_later : (x q : ℕ) → Tries text r p x q → IsLater text r p x q
  tries_later x q t = row_later (row_of r) (both _ _ (ranked r)).0 (named r) x q t

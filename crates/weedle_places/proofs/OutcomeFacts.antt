-- Where the end of a rule lies; repetitions.
use Rattle.std.proofs.Common.{◌≡◌, inl, inr, ℕ, ◌<◌, ◌≤◌, List, length, Bool, true, Some, refl, subst, ◌∙◌, ap}
use Rattle.weedle_grammar.specs.Rows.{Row, Many}
use Rattle.weedle_grammar.specs.Meaning.{ReadsRow}
use Rattle.weedle_grammar.specs.written.Table.{webidl, row_of}
use Rattle.weedle_grammar.proofs.Takes.{takes}
use Rattle.weedle_grammar.proofs.Checked.{rank, ranked}
use Rattle.weedle_grammar.proofs.Entries.{passes}
use Rattle.weedle_grammar.proofs.Exists.{grows, stays_inside, advances}
use Rattle.weedle_grammar.proofs.Inversion.{of_many}
use Rattle.weedle_rules.proofs.RowEnds.{RowEnds, row_ends, rule_ends, raw_end, before_end}
use Rattle.weedle_rules.specs.Outcomes.{EndsAt, FailsAt}
use Rattle.weedle_rules.proofs.OutcomeFacts.{it_ends, has_end, one_end, not_both}

module _ {text : List ℕ} {r p : ℕ} where
  pub ends_inside : {q : ℕ} → EndsAt text r p q → p ≤ length text → q ≤ length text
  ends_inside h l = stays_inside webidl text h.1 l

  pub ends_after : {q : ℕ} → EndsAt text r p q → p ≤ q
  ends_after h = grows webidl text h.1

  pub ends_behind : {q : ℕ} → takes r ≡ true → EndsAt text r p q → p < q
  ends_behind t h = advances webidl text rank takes ranked h.1 t

-- what is repeated takes a byte
abbrev pub repeats_bytes : Row → Bool
repeats_bytes (Many x) = takes x
repeats_bytes _ = true

all_repeat : (r : ℕ) → repeats_bytes (row_of r) ≡ true
all_repeat = passes (λ r e. repeats_bytes e.row) (λ n r. refl) refl

pub takes_bytes : {y : ℕ} → (list : ℕ) × (row_of list ≡ Many y) → takes y ≡ true
takes_bytes {y} s = subst (λ row. repeats_bytes row ≡ true) s.1 (all_repeat s.0)

-- behind an item a repetition ends where it ends from the item on, and where there is no item it ends there
module _ (text : List ℕ) (l y p z : ℕ) (is : row_of l ≡ Many y) (d : EndsAt text l p z) where
  rows : RowEnds webidl text (Many y) p (Some z)
  rows = row_ends is (has_end d)

  pub list_on : (e : ℕ) → EndsAt text y p e → EndsAt text l e z
  list_on e h =
      let m = rows in
      elim (of_many m.reads) [
        | inl k ↦ absurd (not_both k.0 h)
        | inr (inl k) ↦ (let a = m.is ∙ ap raw_end k.2 in let n : ⊥ = cc in absurd n)
        | inr (inr (ts, q, v, given, ne, more, e')) ↦ (
            let same : q ≡ e = one_end h (ts, given) in
            it_ends (rule_ends is (record { raw = v; reads = subst (λ s. ReadsRow webidl text (Many y) s v) same more; is = m.is ∙ ap raw_end e' ∙ before_end ts v })))
      ]

  pub list_stops : FailsAt text y p → z ≡ p
  list_stops h =
      let m = rows in
      elim (of_many m.reads) [
        | inl k ↦ (let a = m.is ∙ ap raw_end k.1 in cc)
        | inr (inl k) ↦ absurd (not_both h (k.0, k.1))
        | inr (inr (ts, q, v, given, ne, more, e')) ↦ absurd (not_both h (ts, given))
      ]

-- Bits that are set.
use Rattle.std.proofs.Common.{◌≡◌, ◌≢◌, ◌⊎◌, inl, inr, ℕ, true, ◌+◌, ◌-◌, ◌*◌, ◌/◌, ◌%◌, ◌^◌, ◌<◌, List, length, get_or, set, replicate, refl, sym, subst, ◌∙◌, ap, arith, get_or-set_other, get_or-set_same}
use Rattle.std.specs.Prelude.{◌↔◌, bit_or, bit_and}
use Rattle.std.specs.Int.{bit_at}
use Rattle.std.proofs.lemmas.Bool.{cases_eq, cases_lt, eqb-true, eq-eqb}
use Rattle.std.proofs.lemmas.List.{get_or-replicate, get_or_past, length-replicate}
use lib.Dec.{eqb}
use Rattle.std.proofs.lemmas.Nat.Bits.{bit_at_set_same, bit_at_set_other, bit_at-zero, shr_and_one}
use mir.Syntax.{w64}
use Rattle.weedle_refusal.specs.Marks.{IsSet, IsClear}

-- the words with the cell's bit
abbrev pub with_bit : List ℕ → ℕ → List ℕ
with_bit words cell = set words (cell / 64) (bit_or (get_or words (cell / 64) 0) (1 * 2 ^ (63 - cell % 64) % 2 ^ 64))

-- the bit in a word that was written, and in another
same_word : (words : List ℕ) (word bit other v : ℕ) → word < length words → other ≡ word → bit_at (get_or (set words word v) other 0) bit ≡ bit_at v bit
same_word words word bit other v h e = subst (λ o. bit_at (get_or (set words word v) o 0) bit ≡ bit_at v bit) (sym e) (ap (λ z. bit_at z bit) (get_or-set_same words word v 0 h))

other_word : (words : List ℕ) (word bit other v : ℕ) → other ≢ word → bit_at (get_or (set words word v) other 0) bit ≡ bit_at (get_or words other 0) bit
other_word words word bit other v n = ap (λ z. bit_at z bit) (get_or-set_other words word other v 0 n)

-- whether a bit that isn't the cell's is set
unchanged : (x y other cell : ℕ) → x ≡ y → (other ≡ cell → ⊥) → (x ≡ 1) ↔ ((y ≡ 1) ⊎ (other ≡ cell))
unchanged x y other cell e n = (λ h. inl (sym e ∙ h), λ h. elim h [ inl k ↦ e ∙ k | inr k ↦ absurd (n k) ])

set_at : (words : List ℕ) (cell other word bit o b : ℕ) → cell + bit ≡ 64 * word + 63 → other + b ≡ 64 * o + 63 → bit < 64 → b < 64 → word < length words
    → (bit_at (get_or (set words word (bit_or (get_or words word 0) (1 * 2 ^ bit % 2 ^ 64))) o 0) b ≡ 1) ↔ ((bit_at (get_or words o 0) b ≡ 1) ⊎ (other ≡ cell))
set_at words cell other word bit o b ce oe bl ol h =
    let v = bit_or (get_or words word 0) (1 * 2 ^ bit % 2 ^ 64) in
    elim (cases_eq o word) [
      | inl e ↦ elim (cases_eq b bit) [
        | inl f ↦ (
            let same : other ≡ cell = omega arith in
            let is : bit_at (get_or (set words word v) o 0) b ≡ 1 = same_word words word b o v h e ∙ subst (λ z. bit_at v z ≡ 1) (sym f) (bit_at_set_same w64 (get_or words word 0) bit bl) in
            (λ k. inr same, λ k. is))
        | inr n ↦ unchanged _ _ other cell (same_word words word b o v h e ∙ bit_at_set_other w64 (get_or words word 0) bit bl b n ∙ ap (λ z. bit_at (get_or words z 0) b) (sym e)) (λ k. n (omega arith))
      ]
      | inr n ↦ unchanged _ _ other cell (other_word words word b o v n) (λ k. n (omega arith))
    ]

pub set_is : (words : List ℕ) (cell other : ℕ) → cell < 64 * length words → IsSet (with_bit words cell) other ↔ (IsSet words other ⊎ (other ≡ cell))
unfolding IsSet
set_is words cell other h = set_at words cell other (cell / 64) (63 - cell % 64) (other / 64) (63 - other % 64) (omega arith) (omega arith) (omega arith) (omega arith) (omega arith)

pub unset_word : (words : List ℕ) (word cell : ℕ) → get_or words word 0 ≡ 0 → cell / 64 ≡ word → IsSet words cell → ⊥
unfolding IsSet
unset_word words word cell z e s =
    let a : bit_at (get_or words (cell / 64) 0) (63 - cell % 64) ≡ 0 = subst (λ w. bit_at (get_or words w 0) (63 - cell % 64) ≡ 0) (sym e) (subst (λ v. bit_at v (63 - cell % 64) ≡ 0) (sym z) (bit_at-zero (63 - cell % 64))) in
    absurd (omega (arith, a, s))

-- one word more that has no marks
pub clear_on : (words : List ℕ) (left behind : ℕ) → 0 < left → get_or words (left - 1) 0 ≡ 0 → IsClear words (64 * left) behind → IsClear words (64 * (left - 1)) behind
clear_on words left behind some z clear cell a b s = elim (cases_lt cell (64 * left)) [
  | inl k ↦ unset_word words (left - 1) cell z (omega arith) s
  | inr k ↦ clear cell k b s
]

pub set_tests : (words : List ℕ) (cell : ℕ) → (eqb (bit_and (get_or words (cell / 64) 0 / 2 ^ (63 - cell % 64)) 1) 1 ≡ true) ↔ IsSet words cell
unfolding IsSet
set_tests words cell = rw shr_and_one (eqb-true _ 1, eq-eqb _ 1)

pub clear_words : (n : ℕ) (words : List ℕ) → words ≡ replicate n 0 → (cell : ℕ) → IsSet words cell → ⊥
clear_words n words e cell s = unset_word words (cell / 64) cell (zero_word (cell / 64)) refl s
  where
    same_at : (z m k : ℕ) → get_or (replicate m z) k z ≡ z
    same_at z m k = elim (cases_lt k m) [ inl h ↦ get_or-replicate m k z z h | inr h ↦ get_or_past (replicate m z) k z (omega (arith, length-replicate m z)) ]

    zero_word : (k : ℕ) → get_or words k 0 ≡ 0
    zero_word k = subst (λ z. get_or z k 0 ≡ 0) (sym e) (same_at 0 n k)

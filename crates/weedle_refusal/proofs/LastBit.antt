-- The last bit that is set in a word.
use Rattle.std.proofs.Common.{◌≡◌, ◌≢◌, inl, inr, ℕ, ◌+◌, ◌-◌, ◌*◌, ◌/◌, ◌%◌, ◌^◌, ◌<◌, ◌≤◌, List, get_or, sym, subst, ◌∙◌, ap, arith}
use Rattle.std.specs.Int.{bit_at, trailing_zeros}
use Rattle.std.proofs.lemmas.Bool.{cases_lt}
use Rattle.std.proofs.lemmas.Nat.{pow-add}
use Rattle.std.proofs.Math.Nat.{div-div-eq-div-mul, div-le_self}
use Rattle.std.proofs.lemmas.Nat.Bits.{bit_at-zero, bit_at_above, bit_at-trailing_zeros}
use mir.Syntax.{w64}
use Rattle.weedle_refusal.specs.Marks.{IsSet, IsClear, IsLastSet}

-- a bit of a number that was shifted
shifted : (n s i : ℕ) → bit_at (n / 2 ^ s) i ≡ bit_at n (s + i)
shifted n s i = ap (λ z. z % 2) (div-div-eq-div-mul n (2 ^ s) (2 ^ i) ∙ ap (λ z. n / z) (sym (pow-add 2 s i)))

-- the bits of a cell and of those before it in its word, the cell's own the lowest
abbrev pub bits_up_to : List ℕ → ℕ → ℕ
bits_up_to words cell = get_or words (cell / 64) 0 / 2 ^ (63 - cell % 64)

-- the bit of another cell among them
bit_of : (words : List ℕ) (cell other : ℕ) → other ≤ cell → other / 64 ≡ cell / 64 → bit_at (get_or words (other / 64) 0) (63 - other % 64) ≡ bit_at (bits_up_to words cell) (cell - other)
bit_of words cell other h e =
    let i : 63 - other % 64 ≡ 63 - cell % 64 + (cell - other) = omega arith in
    subst (λ w. bit_at (get_or words w 0) (63 - other % 64) ≡ bit_at (bits_up_to words cell) (cell - other)) (sym e)
    (subst (λ z. bit_at (get_or words (cell / 64) 0) z ≡ bit_at (bits_up_to words cell) (cell - other)) (sym i) (sym (shifted (get_or words (cell / 64) 0) (63 - cell % 64) (cell - other))))

-- where a bit is clear, its cell isn't set
unset_bit : (words : List ℕ) (cell other : ℕ) → other ≤ cell → other / 64 ≡ cell / 64 → bit_at (bits_up_to words cell) (cell - other) ≡ 0 → IsSet words other → ⊥
unfolding IsSet
unset_bit words cell other h e z s = let a = bit_of words cell other h e in absurd (omega (arith, a, z, s))

set_bit : (words : List ℕ) (cell other : ℕ) → other ≤ cell → other / 64 ≡ cell / 64 → bit_at (bits_up_to words cell) (cell - other) ≡ 1 → IsSet words other
unfolding IsSet
set_bit words cell other h e o = bit_of words cell other h e ∙ o

-- where all of them are clear
pub none_set : (words : List ℕ) (behind : ℕ) → 0 < behind → bits_up_to words (behind - 1) ≡ 0 → IsClear words ((behind - 1) / 64 * 64) behind
none_set words behind h z other a b s =
    unset_bit words (behind - 1) other (omega arith) (omega arith) (subst (λ n. bit_at n (behind - 1 - other) ≡ 0) (sym z) (bit_at-zero (behind - 1 - other))) s

-- a bit that is set belongs to a cell of the word
within_word : (w low t : ℕ) → w < 2 ^ 64 → low < 64 → bit_at (w / 2 ^ (63 - low)) t ≡ 1 → t ≤ low
within_word w low t h l o = elim (cases_lt low t) [
  | inl m ↦ absurd (
      let a : bit_at w (63 - low + t) ≡ 1 = sym (shifted w (63 - low) t) ∙ o in
      let z : bit_at w (63 - low + t) ≡ 0 = bit_at_above w 64 (63 - low + t) h (omega arith) in
      omega (arith, a, z))
  | inr m ↦ m
]

module _ (words : List ℕ) (behind : ℕ) (some : 0 < behind) (fits : get_or words ((behind - 1) / 64) 0 < 2 ^ 64) (n : bits_up_to words (behind - 1) ≢ 0) where
  zeros : (trailing_zeros w64 (bits_up_to words (behind - 1)) < 64) × (bit_at (bits_up_to words (behind - 1)) (trailing_zeros w64 (bits_up_to words (behind - 1))) ≡ 1)
      × ((i : ℕ) → i < trailing_zeros w64 (bits_up_to words (behind - 1)) → bit_at (bits_up_to words (behind - 1)) i ≡ 0)
  zeros =
      let a : bits_up_to words (behind - 1) ≤ get_or words ((behind - 1) / 64) 0 = div-le_self _ _ in
      bit_at-trailing_zeros w64 (bits_up_to words (behind - 1)) (omega (arith, n)) (below _ _ a fits)
    where
      below : (a b : ℕ) → a ≤ b → b < 2 ^ 64 → a < 2 ^ 64
      below a b h l = omega arith

  pub few_zeros : trailing_zeros w64 (bits_up_to words (behind - 1)) ≤ (behind - 1) % 64
  few_zeros = within_word _ ((behind - 1) % 64) _ fits (omega arith) zeros.1

  -- the last cell that is set
  pub last_set_is : IsLastSet words behind (behind - 1 - trailing_zeros w64 (bits_up_to words (behind - 1)))
  last_set_is = last (trailing_zeros w64 (bits_up_to words (behind - 1))) few_zeros zeros.1 zeros.2
    where
      last : (t : ℕ) → t ≤ (behind - 1) % 64 → bit_at (bits_up_to words (behind - 1)) t ≡ 1 → ((i : ℕ) → i < t → bit_at (bits_up_to words (behind - 1)) i ≡ 0) → IsLastSet words behind (behind - 1 - t)
      last t few one none = record {
        before = omega arith;
        is_set = (
            let e : behind - 1 - (behind - 1 - t) ≡ t = omega arith in
            set_bit words (behind - 1) (behind - 1 - t) (omega arith) (omega arith) (subst (λ i. bit_at (bits_up_to words (behind - 1)) i ≡ 1) (sym e) one));
        clear = λ other a b s. unset_bit words (behind - 1) other (omega arith) (omega arith) (none (behind - 1 - other) (omega arith)) s;
      }

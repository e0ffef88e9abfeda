-- A test that a word has all bytes with which a row can begin.
use Rattle.std.proofs.Common.{◌≡◌, inl, inr, ℕ, zero, suc, ◌-◌, ◌^◌, ◌<◌, List, [], ◌∷◌, Bool, true, false, refl, sym, subst, ◌∙◌, ap, arith}
use Rattle.std.specs.Prelude.{◌==◌, ◌&&◌, ◌||◌, not, bit_or, max, nat_lt, slice_index}
use Rattle.std.specs.Int.{bit_at}
use Rattle.std.proofs.lemmas.Bool.{cases_lt, eqb-true}
use Rattle.std.proofs.lemmas.Nat.Bits.{bit_at_or, bit_at-lt, bit_at_ones}
use borrow.Author.Tests.{lt-ltb}
use Rattle.weedle_grammar.specs.Rows.{Row, Bytes, OneOf, NotNext, Run, Past, Seq, First, Opt, Many, ListOf, List1, Tail, If, is_in}
use Rattle.weedle_grammar.proofs.Leaves.{both}
use Rattle.weedle_grammar.proofs.Takes.{takes}
use Rattle.weedle_starts.proofs.BeginFacts.{IsWithin, CoversFirst, CoversParts, AllWithin, Begins}

-- each bit of the one word is one of the other
abbrev is_within : ℕ → ℕ → Bool
is_within part word = bit_or part word == word

-- the word has the byte
abbrev has : ℕ → ℕ → Bool
has word b = bit_at word b == 1

-- the bytes of a class below n
abbrev has_class : (ℕ → Bool) → ℕ → ℕ → Bool
has_class holds word zero = true
has_class holds word (suc n) = (not (holds n) || has word n) && has_class holds word n

-- the first of these bytes
abbrev has_first : List ℕ → ℕ → Bool
has_first [] word = true
has_first (b ∷ bs) word = not (nat_lt b 128) || has word b

module _ (words : List ℕ) where
  abbrev has_parts : ℕ → List ℕ → Bool
  has_parts word [] = true
  has_parts word (r ∷ rs) = is_within (slice_index words r) word && (takes r || has_parts word rs)

  abbrev has_all : ℕ → List ℕ → Bool
  has_all word [] = true
  has_all word (r ∷ rs) = is_within (slice_index words r) word && has_all word rs

  -- all bytes with which the row can begin
  abbrev pub has_begins : Row → ℕ → Bool
  has_begins (Bytes bs) word = has_first bs word
  has_begins (OneOf c) word = has_class (is_in c) word 128
  has_begins (NotNext c) word = true
  has_begins (Run c) word = has_class (is_in c) word 128
  has_begins (Past b) word = word == 2 ^ 128 - 1
  has_begins (Seq parts) word = has_parts word parts
  has_begins (First parts) word = has_all word parts
  has_begins (Opt y) word = is_within (slice_index words y) word
  has_begins (Many y) word = is_within (slice_index words y) word
  has_begins (ListOf y t) word = is_within (slice_index words y) word && is_within (slice_index words t) word
  has_begins (List1 y t) word = is_within (slice_index words y) word && is_within (slice_index words t) word
  has_begins (Tail y s) word = is_within (slice_index words s) word
  has_begins (If parts k y) word = has_parts word parts && is_within (slice_index words y) word

-- what passes the test is so
implied : (a b : Bool) → not a || b ≡ true → a ≡ true → b ≡ true
implied true b h k = h
implied false b h k = cc

otherwise : (a b : Bool) → a || b ≡ true → a ≡ false → b ≡ true
otherwise true b h k = cc
otherwise false b h k = h

left_bit : (a b i : ℕ) → bit_at a i ≡ 1 → bit_at (bit_or a b) i ≡ 1
left_bit a b i h = bit_at_or a b i ∙ one (bit_at a i) (bit_at b i) h (bit_at-lt b i)
  where
    one : (x y : ℕ) → x ≡ 1 → y < 2 → max x y ≡ 1
    one x y e l = omega arith

within : (part word : ℕ) → is_within part word ≡ true → IsWithin part word
within part word h b k = subst (λ z. bit_at z b ≡ 1) (eqb-true (bit_or part word) word h) (left_bit part word b k)

of_class : (holds : ℕ → Bool) (word n : ℕ) → has_class holds word n ≡ true → (b : ℕ) → b < n → holds b ≡ true → bit_at word b ≡ 1
of_class holds word zero h b l k = absurd (omega arith)
of_class holds word (suc n) h b l k = elim (cases_lt b n) [
  | inl m ↦ of_class holds word n (both _ _ h).1 b m k
  | inr m ↦ (
      let same : n ≡ b = omega arith in
      let here : holds n ≡ true = subst (λ z. holds z ≡ true) (sym same) k in
      subst (λ z. bit_at word z ≡ 1) same (eqb-true (bit_at word n) 1 (implied (holds n) (has word n) (both _ _ h).0 here)))
]

of_first : (bs : List ℕ) (word : ℕ) → has_first bs word ≡ true → CoversFirst bs word
of_first [] word h = tt
of_first (b ∷ bs) word h = λ l. eqb-true (bit_at word b) 1 (implied (nat_lt b 128) (has word b) h (lt-ltb b 128 l))

module _ (words : List ℕ) where
  of_parts : (word : ℕ) (rs : List ℕ) → has_parts words word rs ≡ true → CoversParts words word rs
  of_parts word [] h = tt
  of_parts word (r ∷ rs) h = (within (slice_index words r) word (both _ _ h).0, λ off. of_parts word rs (otherwise (takes r) (has_parts words word rs) (both _ _ h).1 off))

  of_all : (word : ℕ) (rs : List ℕ) → has_all words word rs ≡ true → AllWithin words word rs
  of_all word [] h = tt
  of_all word (r ∷ rs) h = (within (slice_index words r) word (both _ _ h).0, of_all word rs (both _ _ h).1)

  of_two : (a b word : ℕ) → is_within a word && is_within b word ≡ true → IsWithin a word × IsWithin b word
  of_two a b word h = (within a word (both _ _ h).0, within b word (both _ _ h).1)

  pub it_begins : (row : Row) (word : ℕ) → has_begins words row word ≡ true → Begins words row word
  it_begins (Bytes bs) word h = of_first bs word h
  it_begins (OneOf c) word h = of_class (is_in c) word 128 h
  it_begins (NotNext c) word h = tt
  it_begins (Run c) word h = of_class (is_in c) word 128 h
  it_begins (Past bs) word h = λ b l. ap (λ z. bit_at z b) (eqb-true word (2 ^ 128 - 1) h) ∙ bit_at_ones 128 b l
  it_begins (Seq parts) word h = of_parts word parts h
  it_begins (First parts) word h = of_all word parts h
  it_begins (Opt y) word h = within (slice_index words y) word h
  it_begins (Many y) word h = within (slice_index words y) word h
  it_begins (ListOf y t) word h = of_two (slice_index words y) (slice_index words t) word h
  it_begins (List1 y t) word h = of_two (slice_index words y) (slice_index words t) word h
  it_begins (Tail y s) word h = within (slice_index words s) word h
  it_begins (If parts k y) word h = (of_parts word parts (both _ _ h).0, within (slice_index words y) word (both _ _ h).1)

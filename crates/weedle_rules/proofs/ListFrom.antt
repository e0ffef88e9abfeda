-- What is left of a list from an index on.
use Rattle.std.proofs.Common.{◌≡◌, ℕ, ◌+◌, ◌<◌, ◌≤◌, List, [], ◌∷◌, length, drop, ap, sym, ◌∙◌, add-one, get_or, slice_index, refl, arith}
use Rattle.std.proofs.Math.Seq.{drop-cons}
use Rattle.std.proofs.lemmas.List.{length-drop}

-- nothing is left from its end on
nothing : (xs : List ℕ) → length xs ≤ 0 → xs ≡ []
nothing [] h = refl
nothing (x ∷ xs) h = absurd (omega arith)

pub past_end : (text : List ℕ) (p : ℕ) → length text ≤ p → drop p text ≡ []
past_end text p h = nothing (drop p text) (omega (arith, length-drop p text))

-- the part of a list from an index on
pub parts_from : (parts : List ℕ) (i : ℕ) → i < length parts → drop i parts ≡ get_or parts i 0 ∷ drop (i + 1) parts
parts_from parts i h = drop-cons parts i 0 h ∙ ap (λ k. get_or parts i 0 ∷ drop k parts) (sym (add-one i))

-- of n parts, x at the index: x, then the parts from the next index on
pub next_part : (parts : List ℕ) {i n x : ℕ} → n ≡ length parts → i < n → x ≡ slice_index parts i → drop i parts ≡ x ∷ drop (i + 1) parts
next_part parts {i} {n} {x} many here is =
    parts_from parts i (omega (arith, many, here)) ∙ ap (λ y. y ∷ drop (i + 1) parts) (sym is)

-- of n parts, none from the n-th on
pub no_part : (parts : List ℕ) {i n : ℕ} → n ≡ length parts → n ≤ i → drop i parts ≡ []
no_part parts {i} many past = past_end parts i (omega (arith, many, past))

-- How far rows without parts go.
use Rattle.std.proofs.Common.{◌≡◌, ◌⊎◌, inl, inr, ℕ, suc, ◌<◌, ◌≤◌, List, [], ◌∷◌, length, Bool, true, false, Option, Some, None, refl, arith}
use Rattle.std.specs.Prelude.{option_map, ◌==◌, ◌&&◌, ◌||◌, if◌then◌else◌}
use Rattle.weedle_grammar.specs.Rows.{Row, Bytes, OneOf, NotNext, Run, Past, Seq, First, Opt, Many, ListOf, List1, Tail, If, begins, take_bytes, take_one, take_not_next, take_past, run_length, is_in}
use Rattle.weedle_grammar.specs.declared.class.Class.{Class}
use Rattle.weedle_grammar.proofs.Moves.{taken}
use Rattle.weedle_grammar.proofs.Ranked.{row_takes}

-- both of two tests pass
pub both : (a b : Bool) → a && b ≡ true → (a ≡ true) × (b ≡ true)
both true b h = (refl, h)
both false b h = cc

-- one of two tests passes
pub one_of : (a b : Bool) → a || b ≡ true → (a ≡ true) ⊎ (b ≡ true)
one_of true b h = inl refl
one_of false b h = inr h

-- which of two values was chosen by a test
pub chosen : (b : Bool) (x y : Option ℕ) (k : ℕ) → (if b then x else y) ≡ Some k
    → ((b ≡ true) × (x ≡ Some k)) ⊎ ((b ≡ false) × (y ≡ Some k))
chosen true x y k h = inl (refl, h)
chosen false x y k h = inr (refl, h)

-- what is one more than some number
pub suc_some : (o : Option ℕ) (k : ℕ) → option_map suc o ≡ Some k → (j : ℕ) × (o ≡ Some j) × (k ≡ suc j)
suc_some None k h = cc
suc_some (Some j) k h = (j, refl, cc)

-- a text is as long as what it begins with
pub begins_le : (bytes text : List ℕ) → begins bytes text ≡ true → length bytes ≤ length text
begins_le [] text h = omega arith
begins_le (b ∷ bytes) [] h = cc
begins_le (b ∷ bytes) (t ∷ text) h = let k = begins_le bytes text (both (b == t) _ h).1 in omega arith

bytes_le : (bytes text : List ℕ) (k : ℕ) → take_bytes bytes text ≡ Some k → k ≤ length text
bytes_le bytes text k h = elim (chosen (begins bytes text) (Some (length bytes)) None k h) [ inl w ↦ (let e : length bytes ≡ k = cc in let l = begins_le bytes text w.0 in omega arith) | inr w ↦ cc ]

one_le : (c : Class) (text : List ℕ) (k : ℕ) → take_one c text ≡ Some k → k ≤ length text
one_le c [] k h = cc
one_le c (t ∷ text) k h = elim (chosen (is_in c t) (Some 1) None k h) [ inl w ↦ (let e : 1 ≡ k = cc in omega arith) | inr w ↦ cc ]

-- a look takes nothing
pub not_next_zero : (c : Class) (text : List ℕ) (k : ℕ) → take_not_next c text ≡ Some k → 0 ≡ k
not_next_zero c [] k h = cc
not_next_zero c (t ∷ text) k h = elim (chosen (is_in c t) None (Some 0) k h) [ inl w ↦ cc | inr w ↦ cc ]

run_le_if : (b : Bool) (m n : ℕ) → m ≤ n → (if b then suc m else 0) ≤ suc n
run_le_if true m n h = omega arith
run_le_if false m n h = omega arith

-- a run is within the text
pub run_le : (c : Class) (text : List ℕ) → run_length c text ≤ length text
run_le c [] = omega arith
run_le c (t ∷ text) = run_le_if (is_in c t) _ _ (run_le c text)

past_le : (bytes text : List ℕ) (k : ℕ) → take_past bytes text ≡ Some k → k ≤ length text
past_le bytes [] k h = bytes_le bytes [] k h
past_le bytes (t ∷ text) k h = elim (chosen (begins bytes (t ∷ text)) (Some (length bytes)) (option_map suc (take_past bytes text)) k h) [
  | inl w ↦ (let e : length bytes ≡ k = cc in let l = begins_le bytes (t ∷ text) w.0 in omega arith)
  | inr w ↦ (let s = suc_some (take_past bytes text) k w.1 in let l = past_le bytes text s.0 s.1 in omega (arith, s.2))
]

-- what a row without parts takes is within the text
pub taken_le : (row : Row) (text : List ℕ) (k : ℕ) → taken row text ≡ Some k → k ≤ length text
taken_le (Bytes b) text k h = bytes_le b text k h
taken_le (OneOf c) text k h = one_le c text k h
taken_le (NotNext c) text k h = let e = not_next_zero c text k h in omega arith
taken_le (Run c) text k h = let e : run_length c text ≡ k = cc in let l = run_le c text in omega arith
taken_le (Past b) text k h = past_le b text k h
taken_le (Seq parts) text k h = cc
taken_le (First parts) text k h = cc
taken_le (Opt x) text k h = cc
taken_le (Many x) text k h = cc
taken_le (ListOf x t) text k h = cc
taken_le (List1 x t) text k h = cc
taken_le (Tail x s) text k h = cc
taken_le (If parts i y) text k h = cc

bytes_take : (b : ℕ) (bytes text : List ℕ) (k : ℕ) → take_bytes (b ∷ bytes) text ≡ Some k → 0 < k
bytes_take b bytes text k h = elim (chosen (begins (b ∷ bytes) text) (Some (suc (length bytes))) None k h) [ inl w ↦ (let e : suc (length bytes) ≡ k = cc in omega arith) | inr w ↦ cc ]

one_takes : (c : Class) (text : List ℕ) (k : ℕ) → take_one c text ≡ Some k → 0 < k
one_takes c [] k h = cc
one_takes c (t ∷ text) k h = elim (chosen (is_in c t) (Some 1) None k h) [ inl w ↦ (let e : 1 ≡ k = cc in omega arith) | inr w ↦ cc ]

past_takes : (b : ℕ) (bytes text : List ℕ) (k : ℕ) → take_past (b ∷ bytes) text ≡ Some k → 0 < k
past_takes b bytes [] k h = bytes_take b bytes [] k h
past_takes b bytes (t ∷ text) k h = elim (chosen (begins (b ∷ bytes) (t ∷ text)) (Some (suc (length bytes))) (option_map suc (take_past (b ∷ bytes) text)) k h) [
  | inl w ↦ (let e : suc (length bytes) ≡ k = cc in omega arith)
  | inr w ↦ (let s = suc_some (take_past (b ∷ bytes) text) k w.1 in omega (arith, s.2))
]

-- bytes, one at least, take a byte
pub bytes_takes : (rank : ℕ → ℕ) (takes : ℕ → Bool) (b text : List ℕ) (k : ℕ) → row_takes rank takes (Bytes b) ≡ true
    → take_bytes b text ≡ Some k → 0 < k
bytes_takes rank takes [] text k e h = cc
bytes_takes rank takes (b ∷ bs) text k e h = bytes_take b bs text k h

-- one byte of a class is a byte
pub take_one_takes : (c : Class) (text : List ℕ) (k : ℕ) → take_one c text ≡ Some k → 0 < k
take_one_takes = one_takes

-- everything past bytes, one at least, takes a byte
pub take_past_takes : (rank : ℕ → ℕ) (takes : ℕ → Bool) (b text : List ℕ) (k : ℕ) → row_takes rank takes (Past b) ≡ true
    → take_past b text ≡ Some k → 0 < k
take_past_takes rank takes [] text k e h = cc
take_past_takes rank takes (b ∷ bs) text k e h = past_takes b bs text k h

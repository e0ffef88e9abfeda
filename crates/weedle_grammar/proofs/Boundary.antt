-- From a character boundary every end is a character boundary.
use Rattle.std.proofs.Common.{◌≡◌, inl, inr, ℕ, suc, ◌+◌, ◌<◌, ◌≤◌, List, [], ◌∷◌, length, drop, get_or, Bool, true, false, Some, None, refl, sym, ap, ◌∙◌, subst, arith, length-drop}
use Rattle.std.specs.Prelude.{option_map, ◌==◌, ◌&&◌, if◌then◌else◌, nat_lt, IsUtf8, IsCharBoundary}
use Rattle.std.proofs.lemmas.List.{drop-drop, get_or-drop}
use Rattle.std.proofs.lemmas.Str.{IsCharBoundary-end, IsCharBoundary-before_ascii, IsCharBoundary-after_ascii}
use borrow.Author.Tests.{ltb-true, eqb-true}
use Rattle.weedle_grammar.specs.Rows.{Row, Bytes, OneOf, NotNext, Run, Past, Seq, First, Opt, Many, ListOf, List1, Tail, If, begins, take_bytes, take_one, take_past, run_length, is_in}
use Rattle.weedle_grammar.specs.Trees.{Outcome}
use Rattle.weedle_grammar.specs.Meaning.{Grammar, ReadsBy}
use Rattle.weedle_grammar.specs.declared.class.Class.{Class}
use Rattle.weedle_grammar.proofs.Moves.{Step, OutLands, moves, taken}
use Rattle.weedle_grammar.proofs.Leaves.{both, chosen, suc_some, not_next_zero}
use Rattle.weedle_grammar.proofs.Classes.{is_ascii_class, in_ascii, out_ascii}

-- bytes below 128 alone
abbrev pub are_ascii : List ℕ → Bool
are_ascii [] = true
are_ascii (b ∷ bytes) = nat_lt b 128 && are_ascii bytes

-- a row without parts ends at a boundary
abbrev pub is_safe : Row → Bool
is_safe (Bytes b) = are_ascii b
is_safe (OneOf c) = is_ascii_class c
is_safe (Past b) = are_ascii b
is_safe _ = true

module _ (text : List ℕ) (utf8 : IsUtf8 text) where
  at_front : (p t : ℕ) (rest : List ℕ) → drop p text ≡ t ∷ rest → (p < length text) × (get_or text p 0 ≡ t) × (drop (p + 1) text ≡ rest)
  at_front p t rest e =
      let l : length (drop p text) ≡ suc (length rest) = ap length e in
      let g : get_or (drop p text) 0 0 ≡ t = ap (λ xs. get_or xs 0 0) e in
      let z : p + 0 ≡ p = omega arith in
      (omega (arith, length-drop p text), ap (λ k. get_or text k 0) (sym z) ∙ sym (get_or-drop p text 0 0) ∙ g, sym (drop-drop 1 p text) ∙ ap (drop 1) e)

  before_low : (p t : ℕ) (rest : List ℕ) → drop p text ≡ t ∷ rest → t < 128 → IsCharBoundary text p
  before_low p t rest e h = let f = at_front p t rest e in IsCharBoundary-before_ascii text p f.0 (subst (λ b. b < 128) (sym f.1) h)

  after_low : (p t : ℕ) (rest : List ℕ) → drop p text ≡ t ∷ rest → t < 128 → IsCharBoundary text (p + 1)
  after_low p t rest e h = let f = at_front p t rest e in IsCharBoundary-after_ascii text p utf8 f.0 (subst (λ b. b < 128) (sym f.1) h)

  sums : (a b : ℕ) → a ≡ b → IsCharBoundary text a → IsCharBoundary text b
  sums a b e h = subst (IsCharBoundary text) e h

  walk : (bytes rest : List ℕ) (p : ℕ) → drop p text ≡ rest → are_ascii bytes ≡ true → begins bytes rest ≡ true
      → IsCharBoundary text p → IsCharBoundary text (p + length bytes)
  walk [] rest p e a b h = sums p (p + 0) (omega arith) h
  walk (x ∷ bytes) [] p e a b h = cc
  walk (x ∷ bytes) (t ∷ rest) p e a b h =
      let s = both (x == t) (begins bytes rest) b in
      let l : t < 128 = omega (arith, eqb-true, ltb-true, s.0, (both (nat_lt x 128) (are_ascii bytes) a).0) in
      sums (p + 1 + length bytes) (p + suc (length bytes)) (omega arith) (walk bytes rest (p + 1) (at_front p t rest e).2 (both (nat_lt x 128) (are_ascii bytes) a).1 s.1 (after_low p t rest e l))

  bytes_safe : (bytes : List ℕ) (p k : ℕ) → are_ascii bytes ≡ true → take_bytes bytes (drop p text) ≡ Some k
      → IsCharBoundary text p → IsCharBoundary text (p + k)
  bytes_safe bytes p k a e h = elim (chosen (begins bytes (drop p text)) (Some (length bytes)) None k e) [
    | inl w ↦ (let l : length bytes ≡ k = cc in sums (p + length bytes) (p + k) (omega arith) (walk bytes (drop p text) p refl a w.0 h))
    | inr w ↦ cc
  ]

  one_safe_at : (c : Class) (p k : ℕ) (rest : List ℕ) → drop p text ≡ rest → is_ascii_class c ≡ true → take_one c rest ≡ Some k
      → IsCharBoundary text (p + k)
  one_safe_at c p k [] d a e = cc
  one_safe_at c p k (t ∷ rest) d a e = elim (chosen (is_in c t) (Some 1) None k e) [
    | inl w ↦ (let l : 1 ≡ k = cc in sums (p + 1) (p + k) (omega arith) (after_low p t rest d (in_ascii c t a w.0)))
    | inr w ↦ cc
  ]

  run_step : (b : Bool) (p n : ℕ) → (b ≡ true → IsCharBoundary text (p + 1 + n)) → (b ≡ false → IsCharBoundary text p)
      → IsCharBoundary text (p + (if b then suc n else 0))
  run_step true p n f g = sums (p + 1 + n) (p + suc n) (omega arith) (f refl)
  run_step false p n f g = sums p (p + 0) (omega arith) (g refl)

  run_ascii : (c : Class) (rest : List ℕ) (p : ℕ) → drop p text ≡ rest → is_ascii_class c ≡ true → IsCharBoundary text p
      → IsCharBoundary text (p + run_length c rest)
  run_ascii c [] p d a h = sums p (p + 0) (omega arith) h
  run_ascii c (t ∷ rest) p d a h = run_step (is_in c t) p (run_length c rest)
      (λ i. run_ascii c rest (p + 1) (at_front p t rest d).2 a (after_low p t rest d (in_ascii c t a i))) (λ i. h)

  run_wide : (c : Class) (rest : List ℕ) (p : ℕ) → drop p text ≡ rest → is_ascii_class c ≡ false → p ≤ length text
      → IsCharBoundary text (p + run_length c rest)
  run_wide c [] p d a h =
      let l : length (drop p text) ≡ 0 = ap length d in
      sums (length text) (p + 0) (omega (arith, length-drop p text)) (IsCharBoundary-end text)
  run_wide c (t ∷ rest) p d a h = run_step (is_in c t) p (run_length c rest)
      (λ i. run_wide c rest (p + 1) (at_front p t rest d).2 a (omega (arith, (at_front p t rest d).0))) (λ i. before_low p t rest d (out_ascii c t a i))

  run_safe : (c : Class) (b : Bool) (p : ℕ) → is_ascii_class c ≡ b → IsCharBoundary text p
      → IsCharBoundary text (p + run_length c (drop p text))
  run_safe c true p a h = run_ascii c (drop p text) p refl a h
  run_safe c false p a h = run_wide c (drop p text) p refl a h.0

  -- bytes that begin with an ASCII byte begin at a boundary
  found_safe : (x : ℕ) (bytes rest : List ℕ) (p : ℕ) → drop p text ≡ rest → are_ascii (x ∷ bytes) ≡ true
      → begins (x ∷ bytes) rest ≡ true → IsCharBoundary text (p + suc (length bytes))
  found_safe x bytes [] p d a b = cc
  found_safe x bytes (t ∷ rest) p d a b =
      let l : t < 128 = omega (arith, eqb-true, ltb-true, (both (x == t) (begins bytes rest) b).0, (both (nat_lt x 128) (are_ascii bytes) a).0) in
      walk (x ∷ bytes) (t ∷ rest) p d a b (before_low p t rest d l)

  past_from : (x : ℕ) (bytes rest : List ℕ) (p k : ℕ) → drop p text ≡ rest → are_ascii (x ∷ bytes) ≡ true
      → take_past (x ∷ bytes) rest ≡ Some k → IsCharBoundary text (p + k)
  past_from x bytes [] p k d a e = cc
  past_from x bytes (t ∷ rest) p k d a e = elim (chosen (begins (x ∷ bytes) (t ∷ rest)) (Some (suc (length bytes))) (option_map suc (take_past (x ∷ bytes) rest)) k e) [
    | inl w ↦ (let l : suc (length bytes) ≡ k = cc in sums (p + suc (length bytes)) (p + k) (omega arith) (found_safe x bytes (t ∷ rest) p d a w.0))
    | inr w ↦ (let s = suc_some (take_past (x ∷ bytes) rest) k w.1 in sums (p + 1 + s.0) (p + k) (omega (arith, s.2)) (past_from x bytes rest (p + 1) s.0 (at_front p t rest d).2 a s.1))
  ]

  past_nothing : (rest : List ℕ) (k : ℕ) → take_past [] rest ≡ Some k → 0 ≡ k
  past_nothing [] k e = cc
  past_nothing (t ∷ rest) k e = cc

  past_safe : (bytes : List ℕ) (p k : ℕ) → are_ascii bytes ≡ true → take_past bytes (drop p text) ≡ Some k
      → IsCharBoundary text p → IsCharBoundary text (p + k)
  past_safe [] p k a e h = let z = past_nothing (drop p text) k e in sums p (p + k) (omega arith) h
  past_safe (x ∷ bytes) p k a e h = past_from x bytes (drop p text) p k refl a e

  -- a step that leads from a boundary to a boundary
  abbrev pub cut : Step
  cut p q = IsCharBoundary text p → IsCharBoundary text q

  leaf_safe : (row : Row) (p k : ℕ) → is_safe row ≡ true → taken row (drop p text) ≡ Some k → IsCharBoundary text p
      → IsCharBoundary text (p + k)
  leaf_safe (Bytes b) p k s e h = bytes_safe b p k s e h
  leaf_safe (OneOf c) p k s e h = one_safe_at c p k (drop p text) refl s e
  leaf_safe (NotNext c) p k s e h = let z = not_next_zero c (drop p text) k e in sums p (p + k) (omega arith) h
  leaf_safe (Run c) p k s e h =
      let z : run_length c (drop p text) ≡ k = cc in
      sums (p + run_length c (drop p text)) (p + k) (omega arith) (run_safe c (is_ascii_class c) p refl h)
  leaf_safe (Past b) p k s e h = past_safe b p k s e h
  leaf_safe (Seq parts) p k s e h = cc
  leaf_safe (First parts) p k s e h = cc
  leaf_safe (Opt x) p k s e h = cc
  leaf_safe (Many x) p k s e h = cc
  leaf_safe (ListOf x t) p k s e h = cc
  leaf_safe (List1 x t) p k s e h = cc
  leaf_safe (Tail x t) p k s e h = cc
  leaf_safe (If parts i y) p k s e h = cc

  -- from a boundary a rule ends at a boundary
  pub ends_at_boundary : (G : Grammar) → ((r : ℕ) → is_safe (G.row r) ≡ true) → {r p : ℕ} {o : Outcome} → ReadsBy G text r p o
      → OutLands cut p o
  ends_at_boundary G safe = moves cut (λ p h. h) (λ p q e f g h. g (f h)) G text (λ row. is_safe row ≡ true) safe leaf_safe

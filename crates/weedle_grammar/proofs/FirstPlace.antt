-- Where bytes first occur in a text.
use Rattle.std.proofs.Common.{refl, sym, ap, ◌∙◌, arith}
use Rattle.std.proofs.lemmas.Bool.{eqb-true, eq-eqb}
use Rattle.std.proofs.lemmas.List.{get_or-drop, length-drop}
use Rattle.std.specs.Prelude.{◌≡◌, ℕ, zero, suc, ◌+◌, ◌<◌, ◌≤◌, List, [], ◌∷◌, ◌++◌, drop, Bool, true, false, length, ◌==◌, get_or, Some, None, option_map}
use Rattle.memchr.specs.Find.{IsFirstByte, FindsNeedle, is_byte, OccursAt, Passes}
use Rattle.weedle_grammar.proofs.Leaves.{both}
use Rattle.weedle_grammar.specs.Rows.{begins, take_past}

-- A front of a text.
pub begins_yes : (b rest : List ℕ) → begins b (b ++ rest) ≡ true
begins_yes [] rest = refl
begins_yes (c ∷ b) rest = rw (eq-eqb c c refl) (begins_yes b rest)

-- what begins with b is b and a rest
pub begins_with : (b s : List ℕ) → begins b s ≡ true → (rest : List ℕ) × (s ≡ b ++ rest)
begins_with [] s h = (s, refl)
begins_with (c ∷ b) [] h = cc
begins_with (c ∷ b) (d ∷ s) h =
    let p = both (c == d) (begins b s) h in
    let m = begins_with b s p.1 in
    let e = eqb-true c d p.0 in
    (m.0, cc (e, m.1))

-- what isn't true is false
pub not_true : (b : Bool) → (b ≡ true → ⊥) → b ≡ false
not_true true h = absurd (h refl)
not_true false h = refl

-- The first place where bytes are.
past_at : (b s : List ℕ) (i : ℕ) → i ≤ length s → begins b (drop i s) ≡ true → ((j : ℕ) → j < i → begins b (drop j s) ≡ false)
    → take_past b s ≡ Some (i + length b)
past_at b [] zero h y n = rw y (ap Some (omega arith))
past_at b [] (suc i) h y n = absurd (omega (arith, h))
past_at b (t ∷ s) zero h y n = rw y (ap Some (omega arith))
past_at b (t ∷ s) (suc i) h y n =
    let first : begins b (t ∷ s) ≡ false = n 0 (omega arith) in
    let later = past_at b s i (omega (arith, h)) y (λ j l. n (suc j) (omega (arith, l))) in
    rw first (ap (option_map suc) later ∙ ap Some (omega arith))

past_nowhere : (b s : List ℕ) → ((j : ℕ) → j ≤ length s → begins b (drop j s) ≡ false) → take_past b s ≡ None
past_nowhere b [] n = let first : begins b [] ≡ false = n 0 (omega arith) in rw first refl
past_nowhere b (t ∷ s) n =
    let first : begins b (t ∷ s) ≡ false = n 0 (omega arith) in
    let later = past_nowhere b s (λ j l. n (suc j) (omega (arith, l))) in
    rw first (ap (option_map suc) later)

same_front : (b s : List ℕ) → length b ≤ length s → ((j : ℕ) → j < length b → get_or s j 0 ≡ get_or b j 0) → begins b s ≡ true
same_front [] s h e = refl
same_front (c ∷ b) [] h e = absurd (omega (arith, h))
same_front (c ∷ b) (d ∷ s) h e =
    let first : d ≡ c = e 0 (omega arith) in
    let later = same_front b s (omega (arith, h)) (λ j l. e (suc j) (omega (arith, l))) in
    rw (eq-eqb c d (sym first)) later

front_same : (b s : List ℕ) → begins b s ≡ true → (length b ≤ length s) × ((j : ℕ) → j < length b → get_or s j 0 ≡ get_or b j 0)
front_same [] s h = (omega arith, λ j l. absurd (omega (arith, l)))
front_same (c ∷ b) [] h = cc
front_same (c ∷ b) (d ∷ s) h =
    let p = both (c == d) (begins b s) h in
    let m = front_same b s p.1 in
    let e = eqb-true c d p.0 in
    (omega (arith, m.0), go m.1 e)
  where
    go : ((j : ℕ) → j < length b → get_or s j 0 ≡ get_or b j 0) → c ≡ d → (j : ℕ) → j < suc (length b)
        → get_or (d ∷ s) j 0 ≡ get_or (c ∷ b) j 0
    go m e zero l = sym e
    go m e (suc j) l = m j (omega (arith, l))

occurs_begins : (s b : List ℕ) (k : ℕ) → OccursAt s b k → begins b (drop k s) ≡ true
occurs_begins s b k h = same_front b (drop k s) (omega (arith, length-drop k s, h.fits)) (λ j l. get_or-drop k s j 0 ∙ h.reads j l)

begins_occurs : (s b : List ℕ) (k : ℕ) → k ≤ length s → begins b (drop k s) ≡ true → OccursAt s b k
begins_occurs s b k h e =
    let m = front_same b (drop k s) e in
    record { fits = omega (arith, length-drop k s, m.0, h); reads = λ j l. sym (get_or-drop k s j 0) ∙ m.1 j l }

-- where b was found at place i, everything past it is taken
pub found_past : (b s : List ℕ) (i : ℕ) → FindsNeedle s b 0 (Some i) → take_past b s ≡ Some (i + length b)
found_past b s i h =
    past_at b s i (omega (arith, h.0.high)) (occurs_begins s b i h.1)
    (λ j l. not_true (begins b (drop j s)) (λ e. h.0.before j (omega arith) l (begins_occurs s b j (omega (arith, l, h.0.high)) e)))

-- where b is nowhere, nothing is taken
pub nowhere_past : (b s : List ℕ) → FindsNeedle s b 0 None → take_past b s ≡ None
nowhere_past b s h =
    past_nowhere b s (λ j l. not_true (begins b (drop j s)) (λ e. h j (omega arith) (omega (arith, l)) (begins_occurs s b j l e)))

-- where a byte passes at a place, the text begins with it from there
byte_begins : (c : ℕ) (s : List ℕ) (k : ℕ) → k < length s → Passes (is_byte c) s k → begins (c ∷ []) (drop k s) ≡ true
byte_begins c s k l h = same_front (c ∷ []) (drop k s) (omega (arith, length-drop k s, l)) (only (eqb-true (get_or s k 0) c h))
  where
    only : get_or s k 0 ≡ c → (j : ℕ) → j < 1 → get_or (drop k s) j 0 ≡ get_or (c ∷ []) j 0
    only e zero m = let f : k + 0 ≡ k = omega arith in get_or-drop k s 0 0 ∙ ap (λ (n : ℕ). get_or s n 0) f ∙ e
    only e (suc j) m = absurd (omega (arith, m))

begins_byte : (c : ℕ) (s : List ℕ) (k : ℕ) → begins (c ∷ []) (drop k s) ≡ true → (k < length s) × Passes (is_byte c) s k
begins_byte c s k e =
    let m = front_same (c ∷ []) (drop k s) e in
    let f : k + 0 ≡ k = omega arith in
    let here : get_or (drop k s) 0 0 ≡ c = m.1 0 (omega arith) in
    let there : get_or s k 0 ≡ c = ap (λ (n : ℕ). get_or s n 0) (sym f) ∙ sym (get_or-drop k s 0 0) ∙ here in
    (omega (arith, length-drop k s, m.0), eq-eqb (get_or s k 0) c there)

-- where the byte was found at place i, everything past it is taken
pub found_byte : (c : ℕ) (s : List ℕ) (i : ℕ) → IsFirstByte (is_byte c) s (Some i) → take_past (c ∷ []) s ≡ Some (i + 1)
found_byte c s i h =
    past_at (c ∷ []) s i (omega (arith, h.0.high)) (byte_begins c s i h.0.high h.1)
    (λ j l. not_true (begins (c ∷ []) (drop j s)) (λ e. h.0.before j (omega arith) l (begins_byte c s j e).1))

-- where the byte is nowhere, nothing is taken
pub nowhere_byte : (c : ℕ) (s : List ℕ) → IsFirstByte (is_byte c) s None → take_past (c ∷ []) s ≡ None
nowhere_byte c s h =
    past_nowhere (c ∷ []) s (λ j l. not_true (begins (c ∷ []) (drop j s)) (λ e. let m = begins_byte c s j e in h j (omega arith) m.0 m.1))

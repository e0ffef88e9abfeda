-- What the rows without parts take.
use Rattle.std.proofs.Common.{◌≡◌, inl, inr, ℕ, zero, suc, ◌+◌, ◌≤◌, List, [], ◌∷◌, ◌++◌, length, take, drop, Bool, true, false, Some, None, refl, sym, ap, ◌∙◌, subst, arith, length-take, length-append}
use Rattle.std.proofs.lemmas.List.{drop-drop, take-append-drop}
use Rattle.std.specs.Prelude.{option_map, ◌==◌, if◌then◌else◌}
use borrow.Author.Tests.{eqb-true, eq-eqb}
use Rattle.weedle_grammar.proofs.Leaves.{both, chosen, suc_some, not_next_zero}
use Rattle.weedle_grammar.specs.Rows.{take_bytes, take_one, take_not_next, run_length, take_past, begins, is_in}
use Rattle.weedle_grammar.specs.declared.class.Class.{Class}
use Rattle.weedle_spell.specs.Forms.{Form, empty, exactly, ◌then◌, one, any, up_to}
use Rattle.weedle_spell.proofs.Took.{Took}

-- what such a row takes
pub took_leaf : {text : List ℕ} {p e : ℕ} {A : Form} (k : ℕ) → p + k ≡ e → k ≤ length (drop p text) → A (take k (drop p text)) → Took text p e A
took_leaf {text} {p} {e} k end fits has = record {
  bytes = take k (drop p text);
  is = sym (take-append-drop k (drop p text)) ∙ ap (λ (s : List ℕ). take k (drop p text) ++ s) (drop-drop k p text ∙ ap (λ (i : ℕ). drop i text) end);
  size = omega (arith, end, fits, length-take k (drop p text));
  has = has;
}

-- these bytes
pub begins_with : (bytes text : List ℕ) → begins bytes text ≡ true → take (length bytes) text ≡ bytes
begins_with [] text h = refl
begins_with (b ∷ bytes) [] h = cc
begins_with (b ∷ bytes) (t ∷ text) h =
    let s = both (b == t) (begins bytes text) h in
    let e : b ≡ t = eqb-true _ _ s.0 in
    cc (begins_with bytes text s.1, e)

pub bytes_form : (bytes text : List ℕ) (k : ℕ) → take_bytes bytes text ≡ Some k → exactly bytes (take k text)
bytes_form bytes text k h = elim (chosen (begins bytes text) (Some (length bytes)) None k h) [
  | inl w ↦ (let e : length bytes ≡ k = cc in subst (λ (n : ℕ). take n text ≡ bytes) e (begins_with bytes text w.0))
  | inr w ↦ cc
]

-- one byte of a class
pub one_form : (c : Class) (text : List ℕ) (k : ℕ) → take_one c text ≡ Some k → one c (take k text)
one_form c [] k h = cc
one_form c (t ∷ text) k h = elim (chosen (is_in c t) (Some 1) None k h) [
  | inl w ↦ (let e : 1 ≡ k = cc in subst (λ (n : ℕ). one c (take n (t ∷ text))) e (t, refl, w.0))
  | inr w ↦ cc
]

any_step : (c : Class) (t n : ℕ) (text : List ℕ) (b : Bool) → is_in c t ≡ b → any c (take n text) → any c (take (if b then suc n else 0) (t ∷ text))
any_step c t n text true i h = (i, h)
any_step c t n text false i h = tt

-- all bytes of a class
pub run_form : (c : Class) (text : List ℕ) → any c (take (run_length c text) text)
run_form c [] = tt
run_form c (t ∷ text) = any_step c t (run_length c text) text (is_in c t) refl (run_form c text)

-- nothing
pub not_next_form : (c : Class) (text : List ℕ) (k : ℕ) → take_not_next c text ≡ Some k → empty (take k text)
not_next_form c text k h = subst (λ (n : ℕ). take n text ≡ []) (not_next_zero c text k h) refl

begins_itself : (bytes text : List ℕ) → begins bytes (bytes ++ text) ≡ true
begins_itself [] text = refl
begins_itself (b ∷ bytes) text = let e : b == b ≡ true = eq-eqb b b refl in rw e (begins_itself bytes text)

begins_longer : (bytes text : List ℕ) (k : ℕ) → begins bytes (take k text) ≡ true → begins bytes text ≡ true
begins_longer [] text k h = refl
begins_longer (b ∷ bytes) [] zero h = cc
begins_longer (b ∷ bytes) [] (suc k) h = cc
begins_longer (b ∷ bytes) (t ∷ text) zero h = cc
begins_longer (b ∷ bytes) (t ∷ text) (suc k) h =
    let s = both (b == t) (begins bytes (take k text)) h in rw s.0 (begins_longer bytes text k s.1)

nothing_after : (bytes t u : List ℕ) → bytes ≡ t ++ (bytes ++ u) → u ≡ []
nothing_after bytes t [] h = refl
nothing_after bytes t (b ∷ u) h = absurd (omega (arith, ap length h, length-append t (bytes ++ b ∷ u), length-append bytes (b ∷ u)))

first_later : (bytes text u : List ℕ) (b j : ℕ) (s : List ℕ) → begins bytes (b ∷ text) ≡ false → ((t : List ℕ) → take j text ≡ t ++ (bytes ++ u) → u ≡ [])
    → b ∷ take j text ≡ s ++ (bytes ++ u) → u ≡ []
first_later bytes text u b j [] no_more f h =
    let g : begins bytes (take (suc j) (b ∷ text)) ≡ true = rw h (begins_itself bytes u) in
    let m = begins_longer bytes (b ∷ text) (suc j) g in
    cc
first_later bytes text u b j (x ∷ s) no_more f h = f s cc

-- everything past these bytes: they occur there once, at the end
pub past_form : (bytes text : List ℕ) (k : ℕ) → take_past bytes text ≡ Some k → up_to bytes (take k text)
past_form bytes [] k h = let e : take k [] ≡ bytes = bytes_form bytes [] k h in rw e ((([], refl)), nothing_after bytes)
past_form bytes (b ∷ text) k h = elim (chosen (begins bytes (b ∷ text)) (Some (length bytes)) (option_map suc (take_past bytes text)) k h) [
  | inl w ↦ (let l : length bytes ≡ k = cc in
      let e : take k (b ∷ text) ≡ bytes = subst (λ (n : ℕ). take n (b ∷ text) ≡ bytes) l (begins_with bytes (b ∷ text) w.0) in rw e ((([], refl)), nothing_after bytes))
  | inr w ↦ (let s = suc_some (take_past bytes text) k w.1 in
      let f = past_form bytes text s.0 s.1 in
      rw s.2 ((b ∷ f.0.0, ap (λ (x : List ℕ). b ∷ x) f.0.1), λ t u. first_later bytes text u b s.0 t w.0 (λ z. f.1 z u)))
]

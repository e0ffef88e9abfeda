-- Rules that are listed in the order of their numbers.
use Rattle.std.proofs.Common.{◌≡◌, inl, inr, ℕ, ◌+◌, ◌<◌, List, [], ◌∷◌, ◌++◌, length, get_or, sym, subst, arith, length-append}
use Rattle.std.specs.Prelude.{◌↔◌}
use Rattle.std.specs.List.{Contains}
use Rattle.std.proofs.lemmas.Bool.{cases_lt}
use Rattle.std.proofs.lemmas.List.{get_or_append_left}
use Rattle.std.proofs.Math.Seq.{get_or-append_seam}
use Rattle.std.proofs.lemmas.List.Elements.{Contains-get_or, Contains-append_left, Contains-push, Contains-push_cases}
use Rattle.weedle_refusal.specs.Diagnosis.{IsRising}

-- of the rules below n those of which P holds
pub record Lists (xs : List ℕ) (n : ℕ) (P : ℕ → Type 0) : Type 0 where
  pub exact : (r : ℕ) → Contains xs r ↔ ((r < n) × P r)
  pub rising : IsRising xs

none_in : (r : ℕ) → Contains [] r → ⊥
none_in r (k, l, e) = absurd (omega arith)

pub lists_none : (P : ℕ → Type 0) → Lists [] 0 P
lists_none P = record { exact = λ r. (λ h. absurd (none_in r h), λ h. absurd (let l : r < 0 = h.0 in omega arith)); rising = λ i j h l. absurd (omega arith) }

pub lists_skip : (xs : List ℕ) (n : ℕ) (P : ℕ → Type 0) → Lists xs n P → (P n → ⊥) → Lists xs (n + 1) P
lists_skip xs n P h no_more = record {
  exact = λ r. (
    λ k. (let a = (h.exact r).0 k in let l : r < n = a.0 in (omega arith, a.1)),
    λ k. (let l : r < n + 1 = k.0 in elim (cases_lt r n) [ inl m ↦ (h.exact r).1 (m, k.1) | inr m ↦ absurd (no_more (let e : r ≡ n = omega arith in subst P e k.1)) ]),
  );
  rising = h.rising;
}

rising_push : (xs : List ℕ) (n : ℕ) → ((r : ℕ) → Contains xs r → r < n) → IsRising xs → IsRising (xs ++ n ∷ [])
rising_push xs n small up i j l m =
    let len : length (xs ++ n ∷ []) ≡ length xs + 1 = length-append xs (n ∷ []) in
    let first : get_or (xs ++ n ∷ []) i 0 ≡ get_or xs i 0 = get_or_append_left xs (n ∷ []) 0 i (omega arith) in
    elim (cases_lt j (length xs)) [
      | inl h ↦ (
          let second : get_or (xs ++ n ∷ []) j 0 ≡ get_or xs j 0 = get_or_append_left xs (n ∷ []) 0 j h in
          let b : get_or xs i 0 < get_or xs j 0 = up i j l h in
          omega arith)
      | inr h ↦ (
          let e : length xs ≡ j = omega arith in
          let second : get_or (xs ++ n ∷ []) j 0 ≡ n = subst (λ k. get_or (xs ++ n ∷ []) k 0 ≡ n) e (get_or-append_seam xs n [] 0) in
          let b : get_or xs i 0 < n = small (get_or xs i 0) (Contains-get_or xs i 0 (omega arith)) in
          omega arith)
    ]

pub lists_push : (xs : List ℕ) (n : ℕ) (P : ℕ → Type 0) → Lists xs n P → P n → Lists (xs ++ n ∷ []) (n + 1) P
lists_push xs n P h more = record {
  exact = λ r. (
    λ k. elim (Contains-push_cases xs n r k) [
      | inl m ↦ (let a = (h.exact r).0 m in let l : r < n = a.0 in (omega arith, a.1))
      | inr e ↦ (omega arith, subst P e more)
    ],
    λ k. (let l : r < n + 1 = k.0 in elim (cases_lt r n) [
      | inl m ↦ Contains-append_left xs (n ∷ []) r ((h.exact r).1 (m, k.1))
      | inr m ↦ (let e : n ≡ r = omega arith in subst (Contains (xs ++ n ∷ [])) e (Contains-push xs n))
    ]),
  );
  rising = rising_push xs n (λ r k. ((h.exact r).0 k).0) h.rising;
}

-- the same for a list that equals it
pub lists_same : (xs ys : List ℕ) (n : ℕ) (P : ℕ → Type 0) → ys ≡ xs → Lists xs n P → Lists ys n P
lists_same xs ys n P e h = subst (λ zs. Lists zs n P) (sym e) h

pub lists_pushed : (xs ys : List ℕ) (n r : ℕ) (P : ℕ → Type 0) → ys ≡ xs ++ r ∷ [] → r ≡ n → Lists xs n P → P r → Lists ys (n + 1) P
lists_pushed xs ys n r P e is h more = lists_same (xs ++ n ∷ []) ys (n + 1) P (subst (λ k. ys ≡ xs ++ k ∷ []) is e) (lists_push xs n P h (subst P is more))

pub lists_skipped : (xs ys : List ℕ) (n r : ℕ) (P : ℕ → Type 0) → ys ≡ xs → r ≡ n → Lists xs n P → (P r → ⊥) → Lists ys (n + 1) P
lists_skipped xs ys n r P e is h no_more = lists_same xs ys (n + 1) P e (lists_skip xs n P h (λ k. no_more (subst P (sym is) k)))

pub lists_whole : (xs : List ℕ) (n m : ℕ) (P : ℕ → Type 0) → n ≡ m → Lists xs n P → (r : ℕ) → Contains xs r ↔ ((r < m) × P r)
lists_whole xs n m P e h = subst (λ k. (r : ℕ) → Contains xs r ↔ ((r < k) × P r)) e h.exact

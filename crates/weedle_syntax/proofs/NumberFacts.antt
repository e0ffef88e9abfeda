-- Numbers for which a test gives true: what is passed over, and what is found.
use Rattle.std.proofs.Common.{◌≡◌, inl, inr, ℕ, zero, suc, ◌+◌, ◌-◌, ◌<◌, ◌≤◌, [], ◌∷◌, Bool, true, false, refl, sym, subst, ◌∙◌, ap, arith}
use Rattle.std.specs.Prelude.{cond}
use Rattle.std.proofs.lemmas.Bool.{cases_lt}
use Rattle.weedle_syntax.specs.Tree.{numbers_where}

module _ (test : ℕ → Bool) where
  -- numbers for which it gives false are passed over
  pub passed_over : (many i j : ℕ) → i ≤ j → j ≤ i + many → ((k : ℕ) → i ≤ k → k < j → test k ≡ false) → numbers_where test i many ≡ numbers_where test j (i + many - j)
  unfolding numbers_where
  passed_over zero i j a b none = sym (ap (numbers_where test j) (let e : i + zero - j ≡ zero = omega arith in e))
  passed_over (suc many) i j a b none = elim (cases_lt i j) [
    | inl l ↦ ap (λ z. cond z (i ∷ numbers_where test (i + 1) many) (numbers_where test (i + 1) many)) (none i (omega arith) l)
        ∙ passed_over many (i + 1) j (omega arith) (omega arith) (λ k c d. none k (omega arith) d)
        ∙ ap (numbers_where test j) (let e : i + 1 + many - j ≡ i + suc many - j = omega arith in e)
    | inr l ↦ (
        let e : i ≡ j = omega arith in
        let m : suc many ≡ i + suc many - i = omega arith in
        subst (λ z. numbers_where test i (suc many) ≡ numbers_where test z (i + suc many - z)) e (ap (numbers_where test i) m))
  ]

  -- where all are passed over there is none
  pub none_left : (many i : ℕ) → ((k : ℕ) → i ≤ k → k < i + many → test k ≡ false) → numbers_where test i many ≡ []
  unfolding numbers_where
  none_left many i none =
      let m : i + many - (i + many) ≡ zero = omega arith in
      passed_over many i (i + many) (omega arith) (omega arith) none ∙ ap (numbers_where test (i + many)) m

  -- a number for which it gives true comes first
  pub found : (many i : ℕ) → 0 < many → test i ≡ true → numbers_where test i many ≡ i ∷ numbers_where test (i + 1) (many - 1)
  unfolding numbers_where
  found zero i l h = absurd (omega arith)
  found (suc many) i l h =
      let m : many ≡ suc many - 1 = omega arith in
      ap (λ z. cond z (i ∷ numbers_where test (i + 1) many) (numbers_where test (i + 1) many)) h ∙ ap (λ n. i ∷ numbers_where test (i + 1) n) m

-- two tests that give the same
pub same_numbers : (f g : ℕ → Bool) (many i : ℕ) → ((k : ℕ) → i ≤ k → k < i + many → f k ≡ g k) → numbers_where f i many ≡ numbers_where g i many
unfolding numbers_where
same_numbers f g zero i h = refl
same_numbers f g (suc many) i h =
    let here = h i (omega arith) (omega arith) in
    let rest = same_numbers f g many (i + 1) (λ k a b. h k (omega arith) (omega arith)) in
    ap (λ z. cond z (i ∷ numbers_where f (i + 1) many) (numbers_where f (i + 1) many)) here ∙ ap (λ w. cond (g i) (i ∷ w) w) rest

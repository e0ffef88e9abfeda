-- Numbers for which a test gives true.
use Rattle.std.proofs.Common.{◌≡◌, inl, inr, ℕ, zero, suc, ◌+◌, ◌<◌, ◌≤◌, Bool, true, false, List, [], ◌∷◌, ◌++◌, map, refl, sym, subst, ◌∙◌, ap, arith, append-nil}
use Rattle.std.specs.Prelude.{cond}
use Rattle.std.proofs.lemmas.Bool.{cases_lt}
use Rattle.weedle_syntax.specs.declared.node.Node.{Node}
use Rattle.weedle_syntax.specs.Tree.{numbers_where}
use Rattle.weedle_syntax.proofs.ChildFacts.{Each}

-- all of them are below a bound
abbrev pub AreBelow : ℕ → List ℕ → Type 0
AreBelow end [] = Unit {0}
AreBelow end (i ∷ is) = (i < end) × AreBelow end is

module _ (test : ℕ → Bool) where
  -- one number more
  pub numbers_more : (many from : ℕ) → numbers_where test from (suc many) ≡ numbers_where test from many ++ cond (test (from + many)) ((from + many) ∷ []) []
  unfolding numbers_where
  numbers_more zero from = let e : from ≡ from + 0 = omega arith in ap (λ z. cond (test z) (z ∷ []) []) e
  numbers_more (suc many) from =
      let e : from + 1 + many ≡ from + suc many = omega arith in
      let last = numbers_more many (from + 1) ∙ ap (λ z. numbers_where test (from + 1) many ++ cond (test z) (z ∷ []) []) e in
      by (test from) (numbers_where test (from + 1) many) (numbers_where test (from + 1) (suc many)) (cond (test (from + suc many)) ((from + suc many) ∷ []) []) last
    where
      by : (b : Bool) (rest more last : List ℕ) → more ≡ rest ++ last → cond b (from ∷ more) more ≡ cond b (from ∷ rest) rest ++ last
      by true rest more last h = ap (λ z. from ∷ z) h
      by false rest more last h = h

  pub numbers_below : (many from : ℕ) → AreBelow (from + many) (numbers_where test from many)
  unfolding numbers_where
  numbers_below zero from = tt
  numbers_below (suc many) from =
      let e : from + 1 + many ≡ from + suc many = omega arith in
      by (test from) (numbers_where test (from + 1) many) (subst (λ z. AreBelow z (numbers_where test (from + 1) many)) e (numbers_below many (from + 1)))
    where
      by : (b : Bool) (rest : List ℕ) → AreBelow (from + suc many) rest → AreBelow (from + suc many) (cond b (from ∷ rest) rest)
      by true rest h = (omega arith, h)
      by false rest h = h

  -- what is so of each of them is so of one for which the test gives true
  pub at_number : (P : Node → Type 0) (f : ℕ → Node) (many from i : ℕ) → Each P (map f (numbers_where test from many)) → from ≤ i → i < from + many → test i ≡ true → P (f i)
  unfolding numbers_where
  at_number P f zero from i h l m t = absurd (omega arith)
  at_number P f (suc many) from i h l m t = elim (cases_lt from i) [
    | inl s ↦ at_number P f many (from + 1) i (rest (test from) (numbers_where test (from + 1) many) h) (omega arith) (omega arith) t
    | inr s ↦ (
        let e : from ≡ i = omega arith in
        subst (λ z. P (f z)) e (first (test from) (numbers_where test (from + 1) many) (subst (λ z. test z ≡ true) (sym e) t) h))
  ]
    where
      rest : (b : Bool) (others : List ℕ) → Each P (map f (cond b (from ∷ others) others)) → Each P (map f others)
      rest true others k = k.1
      rest false others k = k

      first : (b : Bool) (others : List ℕ) → b ≡ true → Each P (map f (cond b (from ∷ others) others)) → P (f from)
      first true others e k = k.0
      first false others e k = cc

  -- none of so many, where it gives false for each
  pub numbers_none : (many from : ℕ) → ((i : ℕ) → from ≤ i → i < from + many → test i ≡ false) → numbers_where test from many ≡ []
  unfolding numbers_where
  numbers_none zero from h = refl
  numbers_none (suc many) from h =
      let rest = numbers_where test (from + 1) many in
      ap (λ b. cond b (from ∷ rest) rest) (h from (omega arith) (omega arith)) ∙ numbers_none many (from + 1) (λ i l m. h i (omega arith) (omega arith))

  -- the same of more, where it gives false for each of those
  pub numbers_same : (more many from : ℕ) → ((i : ℕ) → from + many ≤ i → i < from + (many + more) → test i ≡ false) → numbers_where test from (many + more) ≡ numbers_where test from many
  numbers_same zero many from h = let e : many + 0 ≡ many = omega arith in ap (numbers_where test from) e
  numbers_same (suc more) many from h =
      let e : many + suc more ≡ suc (many + more) = omega arith in
      let last = h (from + (many + more)) (omega arith) (omega arith) in
      ap (numbers_where test from) e ∙ numbers_more (many + more) from ∙ ap (λ b. numbers_where test from (many + more) ++ cond b ((from + (many + more)) ∷ []) []) last ∙ append-nil (numbers_where test from (many + more))
      ∙ numbers_same more many from (λ i l m. h i l (omega arith))

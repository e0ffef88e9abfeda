-- Where a rule ends or fails, from its cell; it does one of the two, at one place.
use Rattle.std.proofs.Common.{◌≡◌, ℕ, List, Some, None, refl}
use Rattle.weedle_grammar.specs.Trees.{Tree, Fails, Gives}
use Rattle.weedle_grammar.proofs.Unique.{one_outcome}
use Rattle.weedle_rules.specs.Cells.{HasEnd}
use Rattle.weedle_rules.specs.Outcomes.{EndsAt, FailsAt}
use Rattle.weedle_rules.proofs.RowEnds.{gave, failed}

one_place : (q e : ℕ) (ts us : List Tree) → Gives ts e ≡ Gives us q → e ≡ q
one_place q e ts us h = cc

never : (e : ℕ) (ts : List Tree) → Gives ts e ≡ Fails → ⊥
never e ts h = cc

module _ {text : List ℕ} {r p : ℕ} where
  pub it_ends : {q : ℕ} → HasEnd text r p (Some q) → EndsAt text r p q
  it_ends h = gave h

  pub it_fails : HasEnd text r p None → FailsAt text r p
  it_fails h = failed h

  pub has_end : {q : ℕ} → EndsAt text r p q → HasEnd text r p (Some q)
  has_end {q} h = record { outcome = Gives h.0 q; reads = h.1; is = refl }

  pub one_end : {q e : ℕ} → EndsAt text r p q → EndsAt text r p e → e ≡ q
  one_end h k = one_place _ _ _ _ (one_outcome k.1 h.1 refl)

  pub not_both : {e : ℕ} → FailsAt text r p → EndsAt text r p e → ⊥
  not_both h k = never _ _ (one_outcome k.1 h refl)

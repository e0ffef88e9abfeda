-- A type that has a rule is lawful: a lemma that its law needs.
use Rattle.std.proofs.Common.{refl}
use Rattle.std.proofs.lemmas.Str.{IsCharBoundary-start}
use Rattle.std.specs.Prelude.{◌≡◌, ℕ, [], ◌∷◌}
use Rattle.weedle_base.specs.AlikeLaws.{equal_equivalence, seen_equivalence}
use Rattle.weedle_base.specs.Own.{own}
use Rattle.weedle_base.specs.Reading.{IsLawful}
use Rattle.weedle_grammar.proofs.GrammarFacts.{at_boundary}
use Rattle.weedle_grammar.proofs.Unique.{one_outcome}
use Rattle.weedle_grammar.specs.Trees.{Tree, Fails, Gives}

-- a rule that gives two trees gives one
gave_same : {t u : Tree} {k l : ℕ} → Gives (t ∷ []) k ≡ Gives (u ∷ []) l → (t ≡ u) × (k ≡ l)
gave_same e = (cc, cc)

-- what a rule gives isn't its failure
gave_fails : {t : Tree} {k : ℕ} → Gives (t ∷ []) k ≡ Fails → ⊥
gave_fails e = cc

module _ {V : Type 0} (r : ℕ) (tree : V → Tree) (grows : Type 0) where
  -- the laws follow from the rule's one outcome, and from its ends at boundaries
  pub own_lawful : IsLawful (own r tree grows)
  unfolding own
  own_lawful = record {
    within = λ s v k u h. at_boundary s r 0 u (IsCharBoundary-start s u) (tree v ∷ []) k h;
    one = λ s v w k l u h m. gave_same (one_outcome h m refl);
    apart = λ s v k u h m. gave_fails (one_outcome h m refl);
    equivalence = seen_equivalence tree equal_equivalence;
    growing = λ s x code h. h.0;
  }

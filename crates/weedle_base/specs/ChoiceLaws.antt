-- The first of two lawful types that fits is lawful: a lemma that the law of `Parse` needs.
use Rattle.std.proofs.Common.{inl, inr}
use Rattle.std.specs.Prelude.{◌≡◌, ℕ, List, ◌⊎◌}
use Rattle.std.specs.Str.{IsCharBoundary, IsUtf8}
use Rattle.weedle_base.specs.Alike.{IsEquivalence}
use Rattle.weedle_base.specs.Generic.{choice_alike, choice_gives, choice_reading}
use Rattle.weedle_base.specs.Reading.{Reading, IsLawful}
use Rattle.weedle_base.specs.declared.fault.ErrorKind.{ErrorKind}

module _ {V W : Type 0} (R : Reading V) (S : Reading W) (first : IsLawful R) (second : IsLawful S) where
  choice_within : (s : List ℕ) (x : V ⊎ W) (k : ℕ) → IsUtf8 s → choice_gives R S s x k → IsCharBoundary s k
  choice_within s (inl v) k u h = first.within s v k u h
  choice_within s (inr w) k u h = second.within s w k u h.1

  choice_one : (s : List ℕ) (x y : V ⊎ W) (k l : ℕ) → IsUtf8 s → choice_gives R S s x k → choice_gives R S s y l
      → choice_alike R S x y × (k ≡ l)
  choice_one s (inl v) (inl x) k l u a b = first.one s v x k l u a b
  choice_one s (inl v) (inr x) k l u a b = absurd (first.apart s v k u a b.0)
  choice_one s (inr w) (inl x) k l u a b = absurd (first.apart s x l u b a.0)
  choice_one s (inr w) (inr x) k l u a b = second.one s w x k l u a.1 b.1

  choice_apart : (s : List ℕ) (x : V ⊎ W) (k : ℕ) → IsUtf8 s → choice_gives R S s x k → (choice_reading R S).refuses s → ⊥
  unfolding choice_reading
  choice_apart s (inl v) k u h n = first.apart s v k u h n.0
  choice_apart s (inr w) k u h n = second.apart s w k u h.1 n.1

  choice_growing : (s r : List ℕ) (code : ErrorKind) → (choice_reading R S).stops s r code → (choice_reading R S).grows
  unfolding choice_reading
  choice_growing s r code (inl h) = inl (first.growing s r code h)
  choice_growing s r code (inr h) = inr (second.growing s r code h.1)

  choice_same : (x : V ⊎ W) → choice_alike R S x x
  choice_same (inl v) = first.equivalence.same v
  choice_same (inr w) = second.equivalence.same w

  choice_back : (x y : V ⊎ W) → choice_alike R S x y → choice_alike R S y x
  choice_back (inl v) (inl x) h = first.equivalence.back v x h
  choice_back (inl v) (inr x) h = h
  choice_back (inr w) (inl x) h = h
  choice_back (inr w) (inr x) h = second.equivalence.back w x h

  choice_along : (x y z : V ⊎ W) → choice_alike R S x y → choice_alike R S y z → choice_alike R S x z
  choice_along (inl v) (inl x) (inl z) h l = first.equivalence.along v x z h l
  choice_along (inl v) (inl x) (inr z) h l = l
  choice_along (inl v) (inr x) z h l = absurd h
  choice_along (inr w) (inl x) z h l = absurd h
  choice_along (inr w) (inr x) (inl z) h l = l
  choice_along (inr w) (inr x) (inr z) h l = second.equivalence.along w x z h l

  choice_equivalence : IsEquivalence (choice_alike R S)
  choice_equivalence = record { same = choice_same; back = choice_back; along = choice_along }

  pub choice_lawful : IsLawful (choice_reading R S)
  unfolding choice_reading
  choice_lawful = record {
    within = choice_within;
    one = choice_one;
    apart = choice_apart;
    equivalence = choice_equivalence;
    growing = choice_growing;
  }

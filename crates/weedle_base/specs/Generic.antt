-- The meanings of the generic parts, by cases over the meanings of their parameters.
use Rattle.std.proofs.Common.{inl, inr}
use Rattle.std.specs.Prelude.{◌≡◌, ℕ, ◌+◌, List, drop, Option, Some, None, ◌⊎◌}
use Rattle.weedle_base.specs.Reading.{Reading}
use Rattle.weedle_base.specs.Runs.{for_memory}
use Rattle.weedle_base.specs.Alike.{option_alike}

-- an option
module _ {V : Type 0} (R : Reading V) where
  -- it gives what the type gives, or None and no byte where the type refuses
  abbrev pub option_gives : List ℕ → Option V → ℕ → Type 0
  option_gives s (Some v) k = R.gives s v k
  option_gives s None k = R.refuses s × (k ≡ 0)

  -- it never refuses
  unfoldable pub option_reading : Reading (Option V)
  option_reading = record {
    gives = option_gives;
    refuses = λ s. ⊥;
    stops = R.stops;
    grows = R.grows;
    alike = option_alike R.alike;
  }

-- a pair
module _ {V W : Type 0} (R : Reading V) (S : Reading W) where
  -- the first value and, from where it ends, the second; where either refuses or stops, so does the pair
  unfoldable pub pair_reading : Reading (V × W)
  pair_reading = record {
    gives = λ s x k. (i : ℕ) × (j : ℕ) × R.gives s x.0 i × S.gives (drop i s) x.1 j × (k ≡ i + j);
    refuses = λ s. R.refuses s ⊎ ((v : V) × (i : ℕ) × R.gives s v i × S.refuses (drop i s));
    stops = λ s r code. R.stops s r code ⊎ ((v : V) × (i : ℕ) × R.gives s v i × S.stops (drop i s) r code);
    grows = R.grows ⊎ S.grows;
    alike = λ x y. R.alike x.0 y.0 × S.alike x.1 y.1;
  }

-- a value that holds another, for which memory was asked
module _ {V B : Type 0} (inside : B → V) (R : Reading V) where
  -- it gives and refuses what the type inside does, and may stop because memory runs out
  unfoldable pub boxed_reading : Reading B
  boxed_reading = record {
    gives = λ s b k. R.gives s (inside b) k;
    refuses = R.refuses;
    stops = λ s r code. for_memory s r code ⊎ R.stops s r code;
    grows = Unit {0};
    alike = λ b c. R.alike (inside b) (inside c);
  }

-- a value seen as another, as a struct as the pairs of its fields
module _ {V X : Type 0} (view : X → V) (R : Reading V) where
  -- it reads what the type that it is seen as reads
  unfoldable pub seen_reading : Reading X
  seen_reading = record {
    gives = λ s x k. R.gives s (view x) k;
    refuses = R.refuses;
    stops = R.stops;
    grows = R.grows;
    alike = λ x y. R.alike (view x) (view y);
  }

-- the first of two types that fits
module _ {V W : Type 0} (R : Reading V) (S : Reading W) where
  -- the first type's value, or the second's where the first refuses
  abbrev pub choice_gives : List ℕ → V ⊎ W → ℕ → Type 0
  choice_gives s (inl v) k = R.gives s v k
  choice_gives s (inr w) k = R.refuses s × S.gives s w k

  -- values of the same type that are alike
  abbrev pub choice_alike : V ⊎ W → V ⊎ W → Type 0
  choice_alike (inl v) (inl x) = R.alike v x
  choice_alike (inl v) (inr x) = ⊥
  choice_alike (inr w) (inl x) = ⊥
  choice_alike (inr w) (inr x) = S.alike w x

  -- the first of two types that fits
  unfoldable pub choice_reading : Reading (V ⊎ W)
  choice_reading = record {
    gives = choice_gives;
    refuses = λ s. R.refuses s × S.refuses s;
    stops = λ s r code. R.stops s r code ⊎ (R.refuses s × S.stops s r code);
    grows = R.grows ⊎ S.grows;
    alike = choice_alike;
  }

-- Lists with separators.
use Rattle.std.specs.Prelude.{◌≡◌, ℕ, ◌+◌, ◌<◌, List, [], ◌∷◌, drop, ◌⊎◌, Option}
use Rattle.weedle_base.specs.Alike.{all_alike}
use Rattle.weedle_base.specs.Generic.{pair_reading, option_reading}
use Rattle.weedle_base.specs.Reading.{Reading}
use Rattle.weedle_base.specs.Runs.{Step, run_reading}

module _ {V W : Type 0} (R : Reading V) (S : Reading W) where
  -- how a list goes on behind an item: a separator that takes a byte or more, and an item. Where no
  -- item follows it, the separator isn't taken; one that takes nothing refuses the list
  abbrev pub next_step : Step V
  next_step = record {
    takes = λ s v k. (w : W) × (h : ℕ) × (i : ℕ) × S.gives s w h × (0 < h) × R.gives (drop h s) v i × (k ≡ h + i);
    ends = λ s. S.refuses s ⊎ ((w : W) × (h : ℕ) × S.gives s w h × (0 < h) × R.refuses (drop h s));
    refuses = λ s. (w : W) × S.gives s w 0;
    stops = λ s r code. S.stops s r code ⊎ ((w : W) × (h : ℕ) × S.gives s w h × (0 < h) × R.stops (drop h s) r code);
    alike = R.alike;
  }

  -- the items after the first, each behind its separator
  abbrev pub tail_reading : Reading (List V)
  tail_reading = run_reading (λ vs. vs) next_step

  -- `List1`: an item and those after it
  abbrev pub list1_gives : List ℕ → List V → ℕ → Type 0
  list1_gives s [] k = ⊥
  list1_gives s (v ∷ vs) k = (pair_reading R tail_reading).gives s (v, vs) k

  -- `List`: the same, or nothing where there is no first item
  abbrev pub list_gives : List ℕ → List V → ℕ → Type 0
  list_gives s [] k = R.refuses s × (k ≡ 0)
  list_gives s (v ∷ vs) k = (pair_reading R tail_reading).gives s (v, vs) k

  -- the reading of `List1`
  abbrev pub list1_reading : Reading (List V)
  list1_reading = record {
    gives = list1_gives;
    refuses = (pair_reading R tail_reading).refuses;
    stops = (pair_reading R tail_reading).stops;
    grows = Unit {0};
    alike = all_alike R.alike;
  }

  -- the reading of `List`
  abbrev pub list_reading : Reading (List V)
  list_reading = record {
    gives = list_gives;
    refuses = λ s. (v : V) × (i : ℕ) × R.gives s v i × tail_reading.refuses (drop i s);
    stops = (pair_reading R tail_reading).stops;
    grows = Unit {0};
    alike = all_alike R.alike;
  }

  -- what follows the first item, as a list with it
  abbrev pub after_first : {L : Type 0} → (L → List V) → V → Reading L
  after_first view first = record {
    gives = λ s l k. (vs : List V) × (view l ≡ first ∷ vs) × tail_reading.gives s vs k;
    refuses = tail_reading.refuses;
    stops = tail_reading.stops;
    grows = Unit {0};
    alike = λ l m. all_alike R.alike (view l) (view m);
  }

  -- `view` sees a value's items, and `known` says of it what is known without reading: that its separator is the default.
  module _ {L : Type 0} (view : L → List V) (known : L → Type 0) where
    -- `Punctuated`: a `List`
    unfoldable pub punctuated_reading : Reading L
    punctuated_reading = record {
      gives = λ s l k. list_gives s (view l) k × known l;
      refuses = list_reading.refuses;
      stops = list_reading.stops;
      grows = Unit {0};
      alike = λ l m. all_alike R.alike (view l) (view m);
    }

    -- `PunctuatedNonEmpty`: a `List1`, and then a separator or nothing
    unfoldable pub punctuated_non_empty_reading : Reading L
    punctuated_non_empty_reading = record {
      gives = λ s l k. ((o : Option W) × (pair_reading list1_reading (option_reading S)).gives s (view l, o) k) × known l;
      refuses = (pair_reading list1_reading (option_reading S)).refuses;
      stops = (pair_reading list1_reading (option_reading S)).stops;
      grows = Unit {0};
      alike = λ l m. all_alike R.alike (view l) (view m);
    }

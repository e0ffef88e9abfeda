-- Items one after another.
use Rattle.std.specs.Prelude.{◌≡◌, ℕ, ◌+◌, ◌<◌, List, [], ◌∷◌, drop, ◌⊎◌}
use Rattle.weedle_base.specs.Places.{IsSuffix}
use Rattle.weedle_base.specs.Reading.{Reading}
use Rattle.weedle_base.specs.declared.fault.ErrorKind.{ErrorKind}
use Rattle.weedle_base.specs.declared.fault.ErrorKind.TheVariants.{Memory}
use Rattle.weedle_base.specs.Alike.{all_alike}

-- Items of which `takes` says how many bytes one takes at the front of a text.
module _ {V : Type 0} (takes : List ℕ → V → ℕ → Type 0) where
  -- the values are one after another, and take so many bytes in all
  abbrev pub Items : List ℕ → List V → ℕ → Type 0
  Items s [] k = k ≡ 0
  Items s (v ∷ vs) k = (i : ℕ) × (j : ℕ) × takes s v i × Items (drop i s) vs j × (k ≡ i + j)

-- how a list goes on at a place
pub record Step (V : Type 0) : Type 1 where
  -- the next item is this value, and it takes so many bytes
  pub takes : List ℕ → V → ℕ → Type 0
  -- the list ends here
  pub ends : List ℕ → Type 0
  -- the whole list is refused
  pub refuses : List ℕ → Type 0
  -- the call may end here with a failure of this input and code
  pub stops : List ℕ → List ℕ → ErrorKind → Type 0
  -- when items are equal, capacities aside
  pub alike : V → V → Type 0

-- a request for memory was refused, at a suffix of the text
abbrev pub for_memory : List ℕ → List ℕ → ErrorKind → Type 0
for_memory s r code = (code ≡ Memory) × IsSuffix s r

-- items until the list ends, where a value is seen as the list of its items
module _ {V L : Type 0} (view : L → List V) (S : Step V) where
  abbrev pub run_reading : Reading L
  run_reading = record {
    gives = λ s v k. Items S.takes s (view v) k × S.ends (drop k s);
    refuses = λ s. (vs : List V) × (k : ℕ) × Items S.takes s vs k × S.refuses (drop k s);
    stops = λ s r code. for_memory s r code ⊎ ((vs : List V) × (k : ℕ) × Items S.takes s vs k × S.stops (drop k s) r code);
    grows = Unit {0};
    alike = λ v w. all_alike S.alike (view v) (view w);
  }

-- `Vec`: an item takes a byte or more; one that takes nothing refuses the whole
abbrev pub vec_step : {V : Type 0} → Reading V → Step V
vec_step {V} R = record {
  takes = λ s v k. R.gives s v k × (0 < k);
  ends = R.refuses;
  refuses = λ s. (v : V) × R.gives s v 0;
  stops = R.stops;
  alike = R.alike;
}

-- What a descent notes: the furthest place at which something fails, and the rules that are marked there.
use Rattle.std.specs.Prelude.{◌≡◌, ◌⊎◌, ◌↔◌, ◌≤◌, ◌<◌, ℕ, List, true}
use Rattle.weedle_grammar.specs.written.Table.{row_of}
use Rattle.weedle_grammar.specs.written.Bound.{rule_count}
use Rattle.weedle_rules.specs.Outcomes.{FailsAt}
use Rattle.weedle_starts.specs.Tries.{has_no_parts}
use Rattle.weedle_refusal.specs.Diagnosis.{IsUnmetIn}
use Rattle.weedle_refusal.specs.Marks.{IsSet}
use Rattle.weedle_refusal.specs.declared.diagnose.noted.Furthest.{Furthest}

-- rule y fails at p, and what is unmet in it there is failing
pub record IsPartOf (text : List ℕ) (failing : ℕ → ℕ → Type 0) (y p : ℕ) : Type 0 where
  pub low : y < rule_count
  pub fails : FailsAt text y p
  pub all : (x q : ℕ) → IsUnmetIn text y p x q → failing x q

-- the rules that are marked have no parts
abbrev pub ArePlain : List ℕ → Type 0
ArePlain marks = (y : ℕ) → IsSet marks y → has_no_parts (row_of y) ≡ true

-- of what was noted before, and of all that fails of these rules at these places, the furthest is noted, and nothing else
pub record Notes (text : List ℕ) (failing : ℕ → ℕ → Type 0) (old new : Furthest) : Type 0 where
  pub forward : old.place ≤ new.place
  pub furthest : (x q : ℕ) → failing x q → q ≤ new.place
  -- the place is the one from before, or one of them fails there
  pub some : (new.place ≡ old.place) ⊎ ((x : ℕ) × failing x new.place)
  -- a marked rule was marked before at this place, or what is unmet in it fails of these
  pub sound : (y : ℕ) → IsSet new.marks y → ((new.place ≡ old.place) × IsSet old.marks y) ⊎ IsPartOf text failing y new.place
  -- what fails of these at the place is unmet in a marked rule
  pub complete : (x : ℕ) → failing x new.place → (y : ℕ) × IsSet new.marks y × IsUnmetIn text y new.place x new.place
  pub kept : new.place ≡ old.place → (y : ℕ) → IsSet old.marks y → IsSet new.marks y
  -- where rules without parts alone are to be marked, they alone are
  pub same : new.leaves ≡ old.leaves
  pub plain : old.leaves ≡ true → ArePlain old.marks → ArePlain new.marks

-- rule r is marked at p, which is the furthest place
pub record IsMarkedAt (r p : ℕ) (old new : Furthest) : Type 0 where
  pub reached : old.place ≤ p
  pub at : new.place ≡ p
  pub same : new.leaves ≡ old.leaves
  pub are : (x : ℕ) → IsSet new.marks x ↔ (((p ≡ old.place) × IsSet old.marks x) ⊎ (x ≡ r))

-- that rule r fails at p is noted, unless something fails further on
abbrev pub IsNoted : ℕ → ℕ → Furthest → Furthest → Type 0
IsNoted r p old new = ((p < old.place) × (new ≡ old)) ⊎ IsMarkedAt r p old new

-- rule x is unmet at q in one of the rules below n that are marked
abbrev pub IsUnmetInMarked : List ℕ → Furthest → ℕ → ℕ → ℕ → Type 0
IsUnmetInMarked text first n x q = (y : ℕ) × (y < n) × IsSet first.marks y × IsUnmetIn text y first.place x q

-- from nothing at the same place on, what is unmet in the marked rules below n is noted, by rules without parts alone
pub record AreOpened (text : List ℕ) (first : Furthest) (n : ℕ) (found : Furthest) : Type 0 where
  pub from : Furthest
  pub at : from.place ≡ first.place
  pub whole : from.leaves ≡ true
  pub none : (x : ℕ) → IsSet from.marks x → ⊥
  pub notes : Notes text (IsUnmetInMarked text first n) from found

-- where rule s is read at `start`, the furthest place at which something is unmet, and exactly what is unmet there is marked
pub record IsFurthestFrom (text : List ℕ) (s start : ℕ) (found : Furthest) : Type 0 where
  pub some : (r : ℕ) × IsUnmetIn text s start r found.place
  pub furthest : (r p : ℕ) → IsUnmetIn text s start r p → p ≤ found.place
  pub exact : (r : ℕ) → IsSet found.marks r ↔ IsUnmetIn text s start r found.place

-- Values put with separators between them, as loops put them.
use Rattle.std.proofs.Common.{◌≡◌, ℕ, zero, suc, ◌+◌, ◌<◌, ◌≤◌, Bool, true, false, List, [], ◌∷◌, ◌++◌, length, take, get_or, refl, sym, ap, ◌∙◌, subst, inr, append-nil, append_assoc, arith}
use Rattle.std.proofs.lemmas.List.{take_more, take_all}
use Rattle.std.specs.Prelude.{◌==◌}
use Rattle.weedle_print.proofs.AddsFacts.{adds_as, adds_then, adds_none}
use Rattle.weedle_print.proofs.EachFacts.{first_snoc, separated_snoc}
use Rattle.weedle_print.specs.Adds.{Adds}
use Rattle.weedle_print.specs.Separators.{in_front_of}
use Rattle.weedle_spell.specs.Forms.{Form, ◌then◌, perhaps, separated_by, separated_non_empty}

-- as many values come before, and it says whether none does
abbrev pub Counts : Bool → ℕ → Type 0
Counts true i = i ≡ 0
Counts false i = 0 < i

module _ {V : Type 0} (S : V → Form) (sep : Form) where
  -- one more value, behind what is in front of it
  item_snoc : (vs : List V) (v : V) (is_first : Bool) → Counts is_first (length vs) → (s : List ℕ)
      → ((separated_by S sep vs then in_front_of is_first sep) then S v) s → separated_by S sep (vs ++ v ∷ []) s
  item_snoc [] v true e s h =
      first_snoc S sep v s (subst (S v) (sym (h.is ∙ ap (λ (t : List ℕ). t ++ h.rest) (h.of_first.is ∙ ap (λ (t : List ℕ). t ++ h.of_first.rest) h.of_first.of_first ∙ h.of_first.of_rest))) h.of_rest)
  item_snoc [] v false e s h = absurd (omega (arith, e))
  item_snoc (w ∷ vs) v true e s h = absurd (omega (arith, e))
  item_snoc (w ∷ vs) v false e s h =
      let front = h.of_first in
      separated_snoc S sep w vs v s (record {
        first = front.first;
        rest = front.rest ++ h.rest;
        is = h.is ∙ ap (λ (t : List ℕ). t ++ h.rest) front.is ∙ append_assoc front.first front.rest h.rest;
        of_first = front.of_first;
        of_rest = record { first = front.rest; rest = h.rest; is = refl; of_first = front.of_rest; of_rest = h.of_rest };
      })

-- where a loop is in a list: what was put, and whether it is at the first value
pub record SeparatedSoFar {V : Type 0} (S : V → Form) (sep : Form) (vs : List V) (i : ℕ) (is_first : Bool) (before after : List ℕ) : Type 0 where
  pub put : Adds (separated_by S sep (take i vs)) before after
  pub first : Counts is_first i

-- before the first value
pub separated_none : {V : Type 0} {S : V → Form} {sep : Form} {vs : List V} {x : List ℕ} → SeparatedSoFar S sep vs 0 true x x
separated_none = record { put = adds_none; first = refl }

length_taken : {V : Type 0} (vs : List V) (i : ℕ) → i < length vs → length (take i vs) ≡ i
length_taken vs zero h = refl
length_taken [] (suc i) h = absurd (omega (arith, h))
length_taken (v ∷ vs) (suc i) h = ap suc (length_taken vs i (omega (arith, h)))

-- one value more
pub separated_more : {V : Type 0} {S : V → Form} {sep : Form} {vs : List V} {i : ℕ} {is_first : Bool} {v : V} {w x y z : List ℕ}
    → v ≡ get_or vs i v → i < length vs → SeparatedSoFar S sep vs i is_first w x → Adds (in_front_of is_first sep) x y → Adds (S v) y z
    → SeparatedSoFar S sep vs (i + 1) false w z
separated_more {V} {S} {sep} {vs} {i} {is_first} {v} {w} {x} {y} {z} is below so_far front item =
    let more : take (i + 1) vs ≡ take i vs ++ v ∷ [] = take_more vs i v below ∙ ap (λ (u : V). take i vs ++ u ∷ []) (sym is) in
    let counted : Counts is_first (length (take i vs)) = subst (Counts is_first) (sym (length_taken vs i below)) so_far.first in
    record {
      put = subst (λ (us : List V). Adds (separated_by S sep us) w z) (sym more) (adds_as (item_snoc S sep (take i vs) v is_first counted) (adds_then (adds_then so_far.put front) item));
      first = omega arith;
    }

-- all values
pub separated_all : {V : Type 0} {S : V → Form} {sep : Form} {vs : List V} {i : ℕ} {is_first : Bool} {x y : List ℕ}
    → length vs ≤ i → SeparatedSoFar S sep vs i is_first x y → Adds (separated_by S sep vs) x y
separated_all {V} {S} {sep} {vs} {i} {is_first} {x} {y} past so_far =
    subst (λ (us : List V). Adds (separated_by S sep us) x y) (take_all i vs past) so_far.put

with_none_behind : (A B P : Form) (s : List ℕ) → (A then B) s → ((A then perhaps P) then B) s
with_none_behind A B P s h = record {
  first = h.first;
  rest = h.rest;
  is = h.is;
  of_first = record { first = h.first; rest = []; is = sym (append-nil h.first); of_first = h.of_first; of_rest = inr refl };
  of_rest = h.of_rest;
}

regrouped : (A B P C : Form) (s : List ℕ) → (C then A then B) s → (C then (A then perhaps P) then B) s
regrouped A B P C s h = record { first = h.first; rest = h.rest; is = h.is; of_first = h.of_first; of_rest = with_none_behind A B P h.rest h.of_rest }

-- a list that isn't empty, between brackets
pub adds_values : {V : Type 0} (S : V → Form) (sep : Form) {front end : Form} (vs : List V) {x y z : List ℕ}
    → (length vs == 0) ≡ false → Adds front x y → Adds (separated_by S sep vs then end) y z → Adds (front then separated_non_empty S sep vs then end) x z
adds_values S sep [] some a b = cc
adds_values S sep {front} {end} (v ∷ vs) some a b = adds_as (regrouped (separated_by S sep (v ∷ vs)) end sep front) (adds_then a b)

pub ruleset separated_steps = (separated_none, separated_more, separated_all)

-- Values put behind one another, as loops put them.
use Rattle.std.proofs.Common.{◌≡◌, ℕ, ◌+◌, ◌<◌, ◌≤◌, List, [], ◌∷◌, ◌++◌, length, take, get_or, refl, sym, ap, ◌∙◌, subst, append-nil, append_assoc}
use Rattle.std.proofs.lemmas.List.{take_more, take_all}
use Rattle.weedle_print.proofs.AddsFacts.{adds_as, adds_then, adds_none}
use Rattle.weedle_print.specs.Adds.{Adds}
use Rattle.weedle_spell.specs.Forms.{Form, ◌then◌, each, each_behind, separated_by}

module _ {V : Type 0} (S : V → Form) where
  -- one more
  pub each_snoc : (vs : List V) (v : V) (s : List ℕ) → (each S vs then S v) s → each S (vs ++ v ∷ []) s
  each_snoc [] v s h =
      record { first = h.rest; rest = []; is = h.is ∙ ap (λ (t : List ℕ). t ++ h.rest) h.of_first ∙ sym (append-nil h.rest); of_first = h.of_rest; of_rest = refl }
  each_snoc (w ∷ vs) v s h =
      let front = h.of_first in
      record {
        first = front.first;
        rest = front.rest ++ h.rest;
        is = h.is ∙ ap (λ (t : List ℕ). t ++ h.rest) front.is ∙ append_assoc front.first front.rest h.rest;
        of_first = front.of_first;
        of_rest = each_snoc vs v (front.rest ++ h.rest) (record { first = front.rest; rest = h.rest; is = refl; of_first = front.of_rest; of_rest = h.of_rest });
      }

  behind_snoc : (sep : Form) (vs : List V) (v : V) (s : List ℕ) → (each_behind S sep vs then sep then S v) s → each_behind S sep (vs ++ v ∷ []) s
  behind_snoc sep [] v s h =
      let more = h.of_rest in
      record {
        first = more.first;
        rest = more.rest;
        is = h.is ∙ ap (λ (t : List ℕ). t ++ h.rest) h.of_first ∙ more.is;
        of_first = more.of_first;
        of_rest = record { first = more.rest; rest = []; is = sym (append-nil more.rest); of_first = more.of_rest; of_rest = refl };
      }
  behind_snoc sep (w ∷ vs) v s h =
      let front = h.of_first in
      let item = front.of_rest in
      record {
        first = front.first;
        rest = front.rest ++ h.rest;
        is = h.is ∙ ap (λ (t : List ℕ). t ++ h.rest) front.is ∙ append_assoc front.first front.rest h.rest;
        of_first = front.of_first;
        of_rest = record {
          first = item.first;
          rest = item.rest ++ h.rest;
          is = ap (λ (t : List ℕ). t ++ h.rest) item.is ∙ append_assoc item.first item.rest h.rest;
          of_first = item.of_first;
          of_rest = behind_snoc sep vs v (item.rest ++ h.rest) (record { first = item.rest; rest = h.rest; is = refl; of_first = item.of_rest; of_rest = h.of_rest });
        };
      }

  pub first_snoc : (sep : Form) (v : V) (s : List ℕ) → S v s → separated_by S sep (v ∷ []) s
  first_snoc sep v s h = record { first = s; rest = []; is = sym (append-nil s); of_first = h; of_rest = refl }

  pub separated_snoc : (sep : Form) (w : V) (vs : List V) (v : V) (s : List ℕ) → (separated_by S sep (w ∷ vs) then sep then S v) s → separated_by S sep (w ∷ (vs ++ v ∷ [])) s
  separated_snoc sep w vs v s h =
      let front = h.of_first in
      record {
        first = front.first;
        rest = front.rest ++ h.rest;
        is = h.is ∙ ap (λ (t : List ℕ). t ++ h.rest) front.is ∙ append_assoc front.first front.rest h.rest;
        of_first = front.of_first;
        of_rest = behind_snoc sep vs v (front.rest ++ h.rest) (record { first = front.rest; rest = h.rest; is = refl; of_first = front.of_rest; of_rest = h.of_rest });
      }

  module _ (vs : List V) (i : ℕ) (v : V) where
    -- the values before the one at a place, and that one
    pub each_more : {x y z : List ℕ} → v ≡ get_or vs i v → i < length vs → Adds (each S (take i vs)) x y → Adds (S v) y z → Adds (each S (take (i + 1) vs)) x z
    each_more {x} {y} {z} is below a b =
        let more : take (i + 1) vs ≡ take i vs ++ v ∷ [] = take_more vs i v below ∙ ap (λ (w : V). take i vs ++ w ∷ []) (sym is) in
        subst (λ (ws : List V). Adds (each S ws) x z) (sym more) (adds_as (each_snoc (take i vs) v) (adds_then a b))

-- none of them yet
pub each_none : {V : Type 0} (S : V → Form) {x : List ℕ} → Adds (each S []) x x
each_none S = adds_none

-- all of them
pub each_all : {V : Type 0} (S : V → Form) (vs : List V) (i : ℕ) {x y : List ℕ} → length vs ≤ i → Adds (each S (take i vs)) x y → Adds (each S vs) x y
each_all {V} S vs i {x} {y} past a = subst (λ (us : List V). Adds (each S us) x y) (take_all i vs past) a

pub ruleset each_steps = (each_none, each_more, each_all)

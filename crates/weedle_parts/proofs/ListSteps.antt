-- How the answers of lists with separators follow from those of their parts.
use Rattle.std.proofs.Common.{refl, subst, inl, inr, arith}
use Rattle.std.specs.Borrow.{Bor}
use Rattle.std.specs.Prelude.{◌≡◌, ℕ, ◌+◌, List, [], Option}
use Rattle.std.specs.Str.{IsUtf8}
use Rattle.weedle_grammar.proofs.RowFacts.{rest_add}
use Rattle.weedle_base.proofs.Steps.{fault_along, got_pair, within_add}
use Rattle.weedle_base.specs.Generic.{pair_reading, option_reading}
use Rattle.weedle_base.specs.Reading.{Reading, Got, Faults}
use Rattle.weedle_base.specs.declared.fault.Err.{Err as Fault}
use Rattle.weedle_base.specs.declared.fault.Error.{Error}
use Rattle.weedle_parts.specs.Lists.{list_gives, list1_gives, list1_reading, tail_reading, after_first, punctuated_reading, punctuated_non_empty_reading}

module _ {V W : Type 0} (R : Reading V) (S : Reading W) where
  -- the first item, and what follows it
  head_gives : {M : Type 0} (inner : M → List V) {s rest end : List ℕ} {v : V} (m : M) (a : Got R s v rest) (b : Got (after_first R S inner v) rest m end)
      → (pair_reading R (tail_reading R S)).gives s (v, b.gives.0) (a.place + b.place)
  unfolding pair_reading
  head_gives inner m a b = (a.place, b.place, a.gives, subst (λ (t : List ℕ). (tail_reading R S).gives t b.gives.0 b.place) a.rest_is b.gives.2, refl)

  module _ {L M : Type 0} (view : L → List V) (known : L → Type 0) (inner : M → List V) where
    pub got_none : (s : List ℕ) (l : L) → IsUtf8 s → R.refuses s → view l ≡ [] → known l → Got (punctuated_reading R S view known) s l s
    unfolding punctuated_reading
    got_none s l u h e k =
        let gives : list_gives R S s (view l) 0 = rw e (h, refl) in
        record { place = 0; gives = (gives, k); within = omega arith; rest_is = refl; text = u }

    pub got_some : {s rest end : List ℕ} {v : V} (l : L) (m : M) → Got R s v rest → Got (after_first R S inner v) rest m end → view l ≡ inner m → known l → Got (punctuated_reading R S view known) s l end
    unfolding punctuated_reading
    got_some {s} {rest} {end} {v} l m a b e k =
        let gives : list_gives R S s (view l) (a.place + b.place) = rw (e, b.gives.1) (head_gives inner m a b) in
        record {
          place = a.place + b.place;
          gives = (gives, k);
          within = within_add s rest a.place b.place a.rest_is a.within b.within;
          rest_is = rest_add s rest end a.place b.place a.rest_is b.rest_is;
          text = b.text;
        }

    pub fault_some : {s rest : List ℕ} {v : V} → Got R s v rest → {e : Fault (Error (Bor (List ℕ)))} → Faults (after_first R S inner v) rest e → Faults (punctuated_reading R S view known) s e
    unfolding pair_reading punctuated_reading
    fault_some {s} {rest} {v} a {e} h = fault_along (after_first R S inner v) (punctuated_reading R S view known) {s = s} {rest = rest} a.place a.rest_is
        (λ r. (v, a.place, a.gives, subst (tail_reading R S).refuses a.rest_is r))
        (λ r code t. inr (v, a.place, a.gives, subst (λ (x : List ℕ). (tail_reading R S).stops x r code) a.rest_is t)) h

    pub got_list1 : {s rest end : List ℕ} {v : V} (m : M) → Got R s v rest → Got (after_first R S inner v) rest m end → Got (list1_reading R S) s (inner m) end
    unfolding pair_reading
    got_list1 {s} {rest} {end} {v} m a b =
        let gives : list1_gives R S s (inner m) (a.place + b.place) = rw b.gives.1 (head_gives inner m a b) in
        record {
          place = a.place + b.place;
          gives = gives;
          within = within_add s rest a.place b.place a.rest_is a.within b.within;
          rest_is = rest_add s rest end a.place b.place a.rest_is b.rest_is;
          text = b.text;
        }

    -- the whole of a list that isn't empty: the first item, those after it, and a separator that
    -- may be there
    pub got_non_empty : {s rest mid end : List ℕ} {v : V} {o : Option W} (l : L) (m : M) → Got R s v rest → Got (after_first R S inner v) rest m mid → Got (option_reading S) mid o end → view l ≡ inner m → known l
        → Got (punctuated_non_empty_reading R S view known) s l end
    unfolding pair_reading punctuated_non_empty_reading
    got_non_empty {s} {rest} {mid} {end} {v} {o} l m a b c e k =
        let whole : Got (pair_reading (list1_reading R S) (option_reading S)) s (inner m, o) end = got_pair (list1_reading R S) (option_reading S) (got_list1 m a b) c in
        let gives : (pair_reading (list1_reading R S) (option_reading S)).gives s (view l, o) whole.place = rw e whole.gives in
        record { place = whole.place; gives = ((o, gives), k); within = whole.within; rest_is = whole.rest_is; text = whole.text }

    pub fault_non_empty : {s rest : List ℕ} {v : V} → Got R s v rest → {e : Fault (Error (Bor (List ℕ)))} → Faults (after_first R S inner v) rest e → Faults (punctuated_non_empty_reading R S view known) s e
    unfolding pair_reading punctuated_non_empty_reading
    fault_non_empty {s} {rest} {v} a {e} h = fault_along (after_first R S inner v) (punctuated_non_empty_reading R S view known) {s = s} {rest = rest} a.place a.rest_is
        (λ r. inl (inr (v, a.place, a.gives, subst (tail_reading R S).refuses a.rest_is r)))
        (λ r code t. inl (inr (v, a.place, a.gives, subst (λ (x : List ℕ). (tail_reading R S).stops x r code) a.rest_is t))) h

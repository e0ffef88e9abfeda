-- A list with separators that is being read.
use Rattle.std.proofs.Common.{refl, subst, inl, inr}
use Rattle.std.specs.Prelude.{◌≡◌, ℕ, ◌+◌, List, [], ◌∷◌, ◌++◌, drop, length}
use Rattle.weedle_base.proofs.FaultFacts.{fault_mismatch, fault_memory}
use Rattle.weedle_base.proofs.PlaceFacts.{took_some}
use Rattle.weedle_base.proofs.Reached.{Reached, reached_push, reached_refuses, reached_stops, reached_all, stuck_item}
use Rattle.weedle_grammar.proofs.RowFacts.{rest_add}
use Rattle.weedle_base.proofs.Steps.{within_add, fault_along}
use Rattle.weedle_base.specs.Faults.{IsMismatch, IsOutOfMemory}
use Rattle.weedle_base.specs.Reading.{Reading, Got, Faults}
use Rattle.weedle_base.specs.Generic.{option_reading}
use Rattle.std.specs.Borrow.{Bor}
use Rattle.weedle_base.specs.declared.fault.Err.{Err as Fault}
use Rattle.weedle_base.specs.declared.fault.Error.{Error}
use Rattle.weedle_base.specs.declared.fault.ErrorKind.{ErrorKind}
use Rattle.weedle_parts.specs.Lists.{next_step, after_first}

module _ {V W : Type 0} (R : Reading V) (S : Reading W) where
  -- a separator and an item
  pub reached_next : {s : List ℕ} {vs : List V} {rest after next : List ℕ} {w : W} {v : V} → Reached (next_step R S) s vs rest → Got S rest w after → (length after ≡ length rest → ⊥) → Got R after v next → Reached (next_step R S) s (vs ++ (v ∷ [])) next
  reached_next {s} {vs} {rest} {after} {next} {w} {v} h a n b =
      let there : R.gives (drop a.place rest) v b.place = subst (λ (t : List ℕ). R.gives t v b.place) a.rest_is b.gives in
      reached_push (next_step R S) h v (a.place + b.place) next
      (w, a.place, b.place, a.gives, took_some rest after a.place a.rest_is n, there, refl)
      (within_add rest after a.place b.place a.rest_is a.within b.within)
      (rest_add rest after next a.place b.place a.rest_is b.rest_is) b.text

  -- a separator that no item follows
  pub ends_behind : {rest after : List ℕ} {w : W} → Got S rest w after → (length after ≡ length rest → ⊥) → R.refuses after → (next_step R S).ends rest
  ends_behind {rest} {after} {w} a n b = inr (w, a.place, a.gives, took_some rest after a.place a.rest_is n, subst R.refuses a.rest_is b)

  pub stops_behind : {rest after : List ℕ} {w : W} → Got S rest w after → (length after ≡ length rest → ⊥) → (r : List ℕ) (code : ErrorKind) → R.stops after r code → (next_step R S).stops rest r code
  stops_behind {rest} {after} {w} a n r code b = inr (w, a.place, a.gives, took_some rest after a.place a.rest_is n, subst (λ (t : List ℕ). R.stops t r code) a.rest_is b)

module _ {V W L : Type 0} (R : Reading V) (S : Reading W) (view : L → List V) (first : V) {s rest : List ℕ} {vs : List V} (h : Reached (next_step R S) s vs rest) where
  -- the list ends here
  pub list_ends : (l : L) → view l ≡ first ∷ vs → (next_step R S).ends rest → Got (after_first R S view first) s l rest
  list_ends l e x = record { place = h.place; gives = (vs, e, (h.items, subst (next_step R S).ends h.rest_is x)); within = h.within; rest_is = h.rest_is; text = h.text }

  -- a separator that took nothing refuses the whole
  pub list_stuck : {after : List ℕ} {w : W} → Got S rest w after → length after ≡ length rest → {e : Fault (Error (Bor (List ℕ)))} → IsMismatch rest e
      → Faults (after_first R S view first) s e
  list_stuck g n m = fault_mismatch (after_first R S view first) m (reached_refuses (next_step R S) h (stuck_item S g n)) (reached_all (next_step R S) h)

  -- the call may end because memory runs out
  pub list_full : {e : Fault (Error (Bor (List ℕ)))} → IsOutOfMemory rest e → Faults (after_first R S view first) s e
  list_full m = fault_memory (after_first R S view first) m (inl (refl, reached_all (next_step R S) h))

  -- a failure of a separator is a failure of the whole
  pub separator_fault : {e : Fault (Error (Bor (List ℕ)))} → Faults (option_reading S) rest e → Faults (after_first R S view first) s e
  unfolding option_reading
  separator_fault f = fault_along (option_reading S) (after_first R S view first) h.place h.rest_is (λ x. absurd x) (λ r code x. inr (reached_stops (next_step R S) h r code (inl x))) f

  -- a failure of an item is a failure of the whole
  pub item_fault : {after : List ℕ} {w : W} → Got S rest w after → (length after ≡ length rest → ⊥) → {e : Fault (Error (Bor (List ℕ)))} → Faults (option_reading R) after e
      → Faults (after_first R S view first) s e
  unfolding option_reading
  item_fault {after} a n f = fault_along (option_reading R) (after_first R S view first) (h.place + a.place) (rest_add s rest after h.place a.place h.rest_is a.rest_is) (λ x. absurd x)
      (λ r code x. inr (reached_stops (next_step R S) h r code (stops_behind R S a n r code x))) f

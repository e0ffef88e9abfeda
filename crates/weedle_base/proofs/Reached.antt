-- A list that is being read: the items so far are at the start of the text.
use Rattle.std.proofs.Common.{refl, ap, subst, inl, inr, arith}
use Rattle.std.proofs.lemmas.List.{length-drop}
use Rattle.std.specs.Prelude.{◌≡◌, ℕ, ◌+◌, ◌≤◌, List, [], ◌∷◌, ◌++◌, drop, length}
use Rattle.std.specs.Str.{IsUtf8}
use Rattle.weedle_base.proofs.FaultFacts.{fault_mismatch, fault_memory}
use Rattle.weedle_base.proofs.PlaceFacts.{took_some}
use Rattle.weedle_base.proofs.RunFacts.{Items-push}
use Rattle.weedle_grammar.proofs.RowFacts.{rest_add}
use Rattle.weedle_base.proofs.Steps.{within_add, fault_along}
use Rattle.weedle_base.specs.Faults.{IsMismatch, IsOutOfMemory}
use Rattle.weedle_base.specs.Places.{IsSuffix}
use Rattle.weedle_base.specs.Reading.{Reading, Got, Faults}
use Rattle.weedle_base.specs.Generic.{option_reading}
use Rattle.weedle_base.specs.Runs.{Step, Items, run_reading, vec_step}
use Rattle.std.specs.Borrow.{Bor}
use Rattle.weedle_base.specs.declared.fault.Err.{Err as Fault}
use Rattle.weedle_base.specs.declared.fault.Error.{Error}
use Rattle.weedle_base.specs.declared.fault.ErrorKind.{ErrorKind}

-- the items were read from s, and rest is left
pub record Reached {V : Type 0} (S : Step V) (s : List ℕ) (vs : List V) (rest : List ℕ) : Type 0 where
  pub place : ℕ
  pub items : Items S.takes s vs place
  pub within : place ≤ length s
  pub rest_is : rest ≡ drop place s
  pub text : IsUtf8 rest

module _ {V : Type 0} (S : Step V) where
  -- at the start no item was read
  pub reached_none : (s : List ℕ) → IsUtf8 s → Reached S s [] s
  reached_none s u = record { place = 0; items = refl; within = omega arith; rest_is = refl; text = u }

  -- where the list ends, the items are what was read
  pub reached_ends : {L : Type 0} (view : L → List V) (s rest : List ℕ) (l : L) → Reached S s (view l) rest → S.ends rest
      → Got (run_reading view S) s l rest
  reached_ends view s rest l h e =
      record { place = h.place; gives = (h.items, subst S.ends h.rest_is e); within = h.within; rest_is = h.rest_is; text = h.text }

  module _ {s : List ℕ} {vs : List V} {rest : List ℕ} (h : Reached S s vs rest) where
    -- where the step refuses, the whole is refused
    pub reached_refuses : S.refuses rest → (vs : List V) × (k : ℕ) × Items S.takes s vs k × S.refuses (drop k s)
    reached_refuses e = (vs, h.place, h.items, subst S.refuses h.rest_is e)

    -- where the step stops, the call stops
    pub reached_stops : (r : List ℕ) (code : ErrorKind) → S.stops rest r code
        → (vs : List V) × (k : ℕ) × Items S.takes s vs k × S.stops (drop k s) r code
    reached_stops r code e = (vs, h.place, h.items, subst (λ (t : List ℕ). S.stops t r code) h.rest_is e)

    -- what is left is a suffix of the text
    pub reached_all : IsSuffix s rest
    reached_all = (h.text, h.place, h.rest_is)

    -- one more item
    pub reached_push : (v : V) (i : ℕ) (after : List ℕ) → S.takes rest v i → i ≤ length rest → after ≡ drop i rest
        → IsUtf8 after → Reached S s (vs ++ (v ∷ [])) after
    reached_push v i after t b e u =
        let here : S.takes (drop h.place s) v i = subst (λ (r : List ℕ). S.takes r v i) h.rest_is t in
        record {
          place = h.place + i;
          items = Items-push S.takes s vs v h.place i h.items here;
          within = within_add s rest h.place i h.rest_is h.within b;
          rest_is = rest_add s rest after h.place i h.rest_is e;
          text = u;
        }

module _ {V : Type 0} (R : Reading V) where
  -- an item that took a byte or more
  pub reached_item : {s : List ℕ} {vs : List V} {rest after : List ℕ} {v : V} → Reached (vec_step R) s vs rest
      → Got R rest v after → (length after ≡ length rest → ⊥) → Reached (vec_step R) s (vs ++ (v ∷ [])) after
  reached_item {s} {vs} {rest} {after} {v} h g n =
      reached_push (vec_step R) h v g.place after (g.gives, took_some rest after g.place g.rest_is n) g.within g.rest_is g.text

  -- one that took nothing
  pub stuck_item : {rest after : List ℕ} {v : V} → Got R rest v after → length after ≡ length rest → (w : V) × R.gives rest w 0
  stuck_item {rest} {after} {v} g n =
      let e : g.place ≡ 0 = omega (arith, g.within, ap length g.rest_is, length-drop g.place rest, n) in
      (v, subst (λ (k : ℕ). R.gives rest v k) e g.gives)

module _ {V L : Type 0} (view : L → List V) (R : Reading V) {s rest : List ℕ} {vs : List V} (h : Reached (vec_step R) s vs rest) where
  -- an item that took nothing refuses the whole
  pub run_stuck : {after : List ℕ} {v : V} → Got R rest v after → length after ≡ length rest → {e : Fault (Error (Bor (List ℕ)))} → IsMismatch rest e
      → Faults (run_reading view (vec_step R)) s e
  run_stuck g n m =
      fault_mismatch (run_reading view (vec_step R)) m (reached_refuses (vec_step R) h (stuck_item R g n)) (reached_all (vec_step R) h)

  -- the call may end because memory runs out
  pub run_full : {e : Fault (Error (Bor (List ℕ)))} → IsOutOfMemory rest e → Faults (run_reading view (vec_step R)) s e
  run_full m = fault_memory (run_reading view (vec_step R)) m (inl (refl, reached_all (vec_step R) h))

  -- a failure of an item is a failure of the whole
  pub run_fault : {e : Fault (Error (Bor (List ℕ)))} → Faults (option_reading R) rest e → Faults (run_reading view (vec_step R)) s e
  unfolding option_reading
  run_fault f = fault_along (option_reading R) (run_reading view (vec_step R)) h.place h.rest_is (λ x. absurd x) (λ r code x. inr (reached_stops (vec_step R) h r code x)) f

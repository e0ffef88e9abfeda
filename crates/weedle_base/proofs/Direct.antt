-- Alternatives, each tried by a call of its own.
use Rattle.std.proofs.Common.{refl, subst, inl, inr}
use Rattle.std.specs.Borrow.{Bor}
use Rattle.std.specs.Prelude.{◌≡◌, List, ℕ, Result, Ok, Err}
use Rattle.weedle_base.specs.Generic.{choice_reading}
use Rattle.weedle_base.proofs.Steps.{fault_along}
use Rattle.weedle_base.specs.Reading.{Reading, Got, Faults, Answers}
use Rattle.weedle_base.specs.declared.fault.Err.TheVariants.{Error as Recoverable, Failure}
use Rattle.weedle_base.specs.declared.fault.Err.{Err as Fault}
use Rattle.weedle_base.specs.declared.fault.Error.{Error}

module _ {V W : Type 0} (R : Reading V) (S : Reading W) {s : List ℕ} where
  -- the first fitted
  pub take_first : {rest : List ℕ} {v : V} → Got R s v rest → Got (choice_reading R S) s (inl v) rest
  unfolding choice_reading
  take_first h = record { place = h.place; gives = h.gives; within = h.within; rest_is = h.rest_is; text = h.text }

  refused : {f : Fault (Error (Bor (List ℕ)))} {e : Error (Bor (List ℕ))} → Faults R s f → f ≡ Recoverable e → R.refuses s
  refused h i = (subst (Faults R s) i h).says.0

  -- the first was a mismatch, and the second fitted
  pub take_next : {f : Fault (Error (Bor (List ℕ)))} {e : Error (Bor (List ℕ))} {rest : List ℕ} {w : W} → Faults R s f → f ≡ Recoverable e
      → Got S s w rest → Got (choice_reading R S) s (inr w) rest
  unfolding choice_reading
  take_next h i g = record { place = g.place; gives = (refused h i, g.gives); within = g.within; rest_is = g.rest_is; text = g.text }

  -- a failure of the first is one of both
  pub stop_first : {f : Fault (Error (Bor (List ℕ)))} {e : Error (Bor (List ℕ))} → Faults R s f → f ≡ Failure e
      → Faults (choice_reading R S) s (Failure e)
  unfolding choice_reading
  stop_first h i = record { says = inl (subst (Faults R s) i h).says }

  -- where the first was a mismatch, a fault of the second is one of both
  pub stop_next : {f g : Fault (Error (Bor (List ℕ)))} {e : Error (Bor (List ℕ))} → Faults R s f → f ≡ Recoverable e → Faults S s g
      → Faults (choice_reading R S) s g
  unfolding choice_reading
  stop_next h i g = fault_along S (choice_reading R S) 0 refl (λ x. (refused h i, x)) (λ r code x. inr (refused h i, x)) g

-- the answer of the call for the last is handed on
pub hand_on : {V : Type 0} {R S : Reading V} {s : List ℕ} (r : Result (Bor (List ℕ) × V) (Fault (Error (Bor (List ℕ)))))
    → ((rest : List ℕ) (v : V) → Got S s v rest → Got R s v rest)
    → ((e : Fault (Error (Bor (List ℕ)))) → Faults S s e → Faults R s e) → Answers S s r → Answers R s r
hand_on (Ok x) got fault h = got _ _ h
hand_on (Err e) got fault h = fault _ h

-- what the search for the proof of such a body uses
pub ruleset direct_steps = (take_first, take_next, stop_first, stop_next)

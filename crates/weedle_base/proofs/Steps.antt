-- How the answers of a call follow from those of the calls for its parts.
use Rattle.std.proofs.Common.{refl, ap, subst, inl, inr, arith}
use Rattle.std.proofs.lemmas.List.{length-drop}
use Rattle.std.specs.Borrow.{Bor}
use Rattle.std.specs.Prelude.{◌≡◌, ℕ, ◌+◌, ◌≤◌, List, drop, length, Option, Some, None, Result, Ok, Err}
use Rattle.std.specs.Result.{IsErrAnd}
use Rattle.weedle_base.proofs.PlaceFacts.{suffix_along}
use Rattle.weedle_base.specs.Generic.{pair_reading, option_reading, seen_reading}
use Rattle.weedle_base.specs.Reading.{Reading, Got, Faults, FaultSays, Answers}
use Rattle.weedle_base.specs.declared.fault.Err.{Err as Fault}
use Rattle.weedle_base.specs.declared.fault.Err.TheVariants.{Error as Recoverable, Failure}
use Rattle.weedle_base.specs.declared.fault.Error.{Error}
use Rattle.weedle_base.specs.declared.fault.ErrorKind.{ErrorKind}
use Rattle.weedle_grammar.proofs.RowFacts.{rest_add}

-- no byte is within every text
pub took_nothing : (s : List ℕ) → 0 ≤ length s
took_nothing s = omega arith

-- one after the other
pub within_add : (s rest : List ℕ) (i j : ℕ) → rest ≡ drop i s → i ≤ length s → j ≤ length rest → i + j ≤ length s
within_add s rest i j e a b = omega (arith, ap length e, length-drop i s)

module _ {V X : Type 0} (R : Reading V) (Q : Reading X) where
  says_along : (s rest : List ℕ) → (i : ℕ) → rest ≡ drop i s → (R.refuses rest → Q.refuses s)
      → ((r : List ℕ) (code : ErrorKind) → R.stops rest r code → Q.stops s r code)
      → (e : Fault (Error (Bor (List ℕ)))) → FaultSays R rest e → FaultSays Q s e
  says_along s rest i b refused stopped (Recoverable e) h = (refused h.0, h.1, suffix_along s rest e.input.now i b h.2)
  says_along s rest i b refused stopped (Failure e) h = stopped e.input.now e.code h

  -- a fault of a part that begins at rest is a fault of the whole
  pub fault_along : {s rest : List ℕ} → (i : ℕ) → rest ≡ drop i s → (R.refuses rest → Q.refuses s)
      → ((r : List ℕ) (code : ErrorKind) → R.stops rest r code → Q.stops s r code)
      → {e : Fault (Error (Bor (List ℕ)))} → Faults R rest e → Faults Q s e
  fault_along {s} {rest} i b refused stopped {e} h = record { says = says_along s rest i b refused stopped e h.says }

module _ {V W : Type 0} (R : Reading V) (S : Reading W) where
  -- a pair, from its two values
  pub got_pair : {s rest end : List ℕ} {v : V} {w : W} → Got R s v rest → Got S rest w end → Got (pair_reading R S) s (v, w) end
  unfolding pair_reading
  got_pair {s} {rest} {end} {v} {w} a b = record {
    place = a.place + b.place;
    gives = (a.place, b.place, a.gives, subst (λ (t : List ℕ). S.gives t w b.place) a.rest_is b.gives, refl);
    within = within_add s rest a.place b.place a.rest_is a.within b.within;
    rest_is = rest_add s rest end a.place b.place a.rest_is b.rest_is;
    text = b.text;
  }

  -- a fault of the first is a fault of the pair
  pub fault_first : {s : List ℕ} {e : Fault (Error (Bor (List ℕ)))} → Faults R s e → Faults (pair_reading R S) s e
  unfolding pair_reading
  fault_first {s} {e} h = fault_along R (pair_reading R S) {s = s} {rest = s} 0 refl inl (λ r code t. inl t) h

  -- where the first was read, a fault of the second is a fault of the pair
  pub fault_second : {s rest : List ℕ} {v : V} → Got R s v rest → {e : Fault (Error (Bor (List ℕ)))} → Faults S rest e
      → Faults (pair_reading R S) s e
  unfolding pair_reading
  fault_second {s} {rest} {v} a {e} h = fault_along S (pair_reading R S) {s = s} {rest = rest} a.place a.rest_is
      (λ r. inr (v, a.place, a.gives, subst S.refuses a.rest_is r))
      (λ r code t. inr (v, a.place, a.gives, subst (λ (x : List ℕ). S.stops x r code) a.rest_is t)) h

-- the exit of a `?`
pub exit_answers : {V : Type 0} {R : Reading V} {s : List ℕ} (r : Result (Bor (List ℕ) × V) (Fault (Error (Bor (List ℕ)))))
    {e : Fault (Error (Bor (List ℕ)))}
    → Faults R s e → IsErrAnd r (λ d. d ≡ e) → Answers R s r
exit_answers (Ok x) f h = absurd h
exit_answers (Err d) f h = rw h f

-- a value, from what it is seen as
pub got_seen : {V X : Type 0} (view : X → V) (R : Reading V) {s rest : List ℕ} (x : X) → Got R s (view x) rest
    → Got (seen_reading view R) s x rest
unfolding seen_reading
got_seen view R x h = record { place = h.place; gives = h.gives; within = h.within; rest_is = h.rest_is; text = h.text }

-- a fault, from that of what the value is seen as
pub fault_seen : {V X : Type 0} (view : X → V) (R : Reading V) {s : List ℕ} {e : Fault (Error (Bor (List ℕ)))} → Faults R s e
    → Faults (seen_reading view R) s e
unfolding seen_reading
fault_seen view R h = fault_along R (seen_reading view R) 0 refl (λ x. x) (λ r code x. x) h

-- what an option's answer says of its value
module _ {V : Type 0} (R : Reading V) {s rest : List ℕ} where
  held : {v : V} → Got (option_reading R) s (Some v) rest → Got R s v rest
  unfolding option_reading
  held g = record { place = g.place; gives = g.gives; within = g.within; rest_is = g.rest_is; text = g.text }

  lacking : Got (option_reading R) s None rest → R.refuses s
  unfolding option_reading
  lacking g = g.gives.0

  module _ {o : Option V} (h : Got (option_reading R) s o rest) where
    pub of_some : {v : V} → o ≡ Some v → Got R s v rest
    of_some {v} e = held (subst (λ (x : Option V). Got (option_reading R) s x rest) e h)

    pub of_none : o ≡ None → R.refuses s
    of_none e = lacking (subst (λ (x : Option V). Got (option_reading R) s x rest) e h)

-- what the search for the proof of a body with `?` uses: a part after another, and a fault of either
pub ruleset part_steps = (fault_first, fault_second, got_pair)

-- what that search uses of a struct that is seen as its parts
pub ruleset seen_steps = (fault_first, fault_second, fault_seen, got_pair, got_seen)

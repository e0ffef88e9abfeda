-- What the search for the proof of a choice uses.
use Rattle.std.specs.Prelude.{ℕ, List}
use Rattle.weedle_base.proofs.ChoiceFacts.{IsFirst, choice_steps}
use Rattle.weedle_base.proofs.Steps.{fault_seen, got_seen}
use Rattle.weedle_base.specs.Generic.{seen_reading}
use Rattle.weedle_base.specs.Reading.{Reading}
use Rattle.weedle_grammar.specs.Trees.{Tree}

-- rules of which the first that fits is taken, seen as the values of another type
pub first_seen : {V X : Type 0} (view : X → V) {R : Reading V} {rs : List ℕ} {i : ℕ} {tree : V → Tree} {grows : Type 0}
    → IsFirst R rs i tree grows → IsFirst (seen_reading view R) rs i (λ x. tree (view x)) grows
unfolding seen_reading
first_seen view f = record {
  gives = λ s x k h. f.gives s (view x) k h;
  refuses = f.refuses;
  stops = f.stops;
}

-- an alternative that fits, those after it, and a fault of either
pub ruleset choice_seen_steps = (choice_steps, fault_seen, got_seen)

-- The first that fits.
use Rattle.std.proofs.Common.{refl, inl, inr}
use Rattle.std.specs.Borrow.{Bor}
use Rattle.std.specs.Prelude.{◌≡◌, ℕ, suc, List, [], ◌∷◌, ◌⊎◌, Some, None}
use Rattle.weedle_grammar.proofs.RowFacts.{of_row}
use Rattle.weedle_base.proofs.Steps.{fault_along}
use Rattle.weedle_base.specs.Generic.{choice_gives, choice_reading, option_reading}
use Rattle.weedle_base.specs.Own.{stops_for_memory}
use Rattle.weedle_base.specs.Reading.{Reading, Got, Faults, FaultSays}
use Rattle.weedle_base.specs.Rules.{IsRule}
use Rattle.weedle_base.specs.declared.fault.Err.{Err as Fault}
use Rattle.weedle_base.specs.declared.fault.Err.TheVariants.{Error as Recoverable, Failure}
use Rattle.weedle_base.specs.declared.fault.Error.{Error}
use Rattle.weedle_base.specs.declared.fault.ErrorKind.{ErrorKind}
use Rattle.weedle_grammar.specs.Meaning.{Plain, ReadsFirst, by_first, first_none, first_here, first_next}
use Rattle.weedle_grammar.specs.Rows.{First}
use Rattle.weedle_grammar.specs.written.Table.{webidl, row_of, shape_of}
use Rattle.weedle_grammar.specs.Trees.{Tree, Alt, Fails, Gives}

-- the reading is that of rules of which the first that fits is taken, counted from i
pub record IsFirst {V : Type 0} (R : Reading V) (rs : List ℕ) (i : ℕ) (tree : V → Tree) (grows : Type 0) : Type 0 where
  pub gives : (s : List ℕ) (v : V) (k : ℕ) → R.gives s v k → ReadsFirst webidl s rs i 0 (Gives (tree v ∷ []) k)
  pub refuses : (s : List ℕ) → R.refuses s → ReadsFirst webidl s rs i 0 Fails
  pub stops : (s x : List ℕ) (code : ErrorKind) → R.stops s x code → stops_for_memory grows s x code

-- the tree of a value of either type
abbrev pub choice_tree : {V W : Type 0} → (V → Tree) → (W → Tree) → V ⊎ W → Tree
choice_tree f g (inl v) = f v
choice_tree f g (inr w) = g w

module _ {V : Type 0} {R : Reading V} {r : ℕ} {tree : V → Tree} {grows : Type 0} (i : ℕ) (rule : IsRule R r tree grows) where
  -- the last alternative
  pub first_last : IsFirst R (r ∷ []) i (λ v. Alt i (tree v)) grows
  first_last = record {
    gives = λ s v k h. first_here (rule.gives s v k h) refl;
    refuses = λ s h. first_next (rule.refuses s h) (first_none refl);
    stops = rule.stops;
  }

module _ {V W : Type 0} {R : Reading V} {S : Reading W} {r : ℕ} {rs : List ℕ} {tree : V → Tree} {ts : W → Tree} {grows : Type 0}
    (i : ℕ) (rule : IsRule R r tree grows) (others : IsFirst S rs (suc i) ts grows) where
  next_gives : (s : List ℕ) (x : V ⊎ W) (k : ℕ) → choice_gives R S s x k
      → ReadsFirst webidl s (r ∷ rs) i 0 (Gives (choice_tree (λ v. Alt i (tree v)) ts x ∷ []) k)
  next_gives s (inl v) k h = first_here (rule.gives s v k h) refl
  next_gives s (inr w) k h = first_next (rule.refuses s h.0) (others.gives s w k h.1)

  next_stops : (s x : List ℕ) (code : ErrorKind) → (choice_reading R S).stops s x code → stops_for_memory grows s x code
  unfolding choice_reading
  next_stops s x code (inl h) = rule.stops s x code h
  next_stops s x code (inr h) = others.stops s x code h.1

  -- an alternative before others
  pub first_more : IsFirst (choice_reading R S) (r ∷ rs) i (choice_tree (λ v. Alt i (tree v)) ts) grows
  unfolding choice_reading
  first_more = record { gives = next_gives; refuses = λ s h. first_next (rule.refuses s h.0) (others.refuses s h.1); stops = next_stops }

module _ {V : Type 0} {R : Reading V} {rs : List ℕ} {tree : V → Tree} {grows : Type 0} (all : IsFirst R rs 0 tree grows) where
  -- alternatives read what a rule reads whose row is the first of their rules that fits
  pub first_rule : (r : ℕ) → row_of r ≡ First rs → shape_of r ≡ Plain → IsRule R r tree grows
  first_rule r row shape = record {
    gives = λ s v k h. of_row row (by_first (all.gives s v k h) refl) (rw shape refl);
    refuses = λ s h. of_row row (by_first (all.refuses s h) refl) refl;
    stops = all.stops;
  }

-- Where a variant is tried as an option.
module _ {V W : Type 0} (R : Reading V) (S : Reading W) where
  -- the first type fitted
  pub choose_left : {s rest : List ℕ} {v : V} → Got (option_reading R) s (Some v) rest → Got (choice_reading R S) s (inl v) rest
  unfolding choice_reading option_reading
  choose_left h = record { place = h.place; gives = h.gives; within = h.within; rest_is = h.rest_is; text = h.text }

  -- the first was absent, and the second fitted
  pub choose_right : {s rest end : List ℕ} {w : W} → Got (option_reading R) s None rest → Got S s w end
      → Got (choice_reading R S) s (inr w) end
  unfolding choice_reading option_reading
  choose_right f h = record { place = h.place; gives = (f.gives.0, h.gives); within = h.within; rest_is = h.rest_is; text = h.text }

  option_fault : (s : List ℕ) (e : Fault (Error (Bor (List ℕ)))) → FaultSays (option_reading R) s e → FaultSays (choice_reading R S) s e
  unfolding choice_reading option_reading
  option_fault s (Recoverable e) h = absurd h.0
  option_fault s (Failure e) h = inl h

  -- a fault of the first is a fault of both
  pub end_left : {s : List ℕ} {e : Fault (Error (Bor (List ℕ)))} → Faults (option_reading R) s e → Faults (choice_reading R S) s e
  end_left {s} {e} h = record { says = option_fault s e h.says }

  -- where the first was absent, a fault of the second is a fault of both
  pub end_right : {s rest : List ℕ} {e : Fault (Error (Bor (List ℕ)))} → Got (option_reading R) s None rest → Faults S s e
      → Faults (choice_reading R S) s e
  unfolding choice_reading option_reading
  end_right f h = fault_along S (choice_reading R S) 0 refl (λ x. (f.gives.0, x)) (λ r code x. inr (f.gives.0, x)) h

-- what the search for the proof of a choice uses: an alternative that fits, those after it, and a fault of either
pub ruleset choice_steps = (choose_left, choose_right, end_left, end_right)

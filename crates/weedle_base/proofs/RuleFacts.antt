-- Readings of parts are those of rules whose rows are made so of the rules of the parts.
use Rattle.std.proofs.Common.{refl, subst, inl, inr}
use Rattle.std.specs.Borrow.{Bor}
use Rattle.std.specs.Prelude.{◌≡◌, ℕ, ◌+◌, List, [], ◌∷◌, drop, Option, Some, None}
use Rattle.weedle_base.proofs.PlaceFacts.{suffix_along}
use Rattle.weedle_base.specs.Generic.{option_reading, option_gives, pair_reading, seen_reading, boxed_reading}
use Rattle.weedle_base.specs.Own.{stops_for_memory, own}
use Rattle.weedle_base.specs.Reading.{Reading, Got, Faults, FaultSays}
use Rattle.weedle_base.specs.Rules.{IsRule, mark_tree, option_tree}
use Rattle.weedle_base.specs.declared.fault.Err.{Err as Fault}
use Rattle.weedle_base.specs.declared.fault.Err.TheVariants.{Error as Recoverable, Failure}
use Rattle.weedle_base.specs.declared.fault.Error.{Error}
use Rattle.weedle_base.specs.declared.fault.ErrorKind.{ErrorKind}
use Rattle.weedle_grammar.proofs.RowFacts.{of_row, Parts, parts_on}
use Rattle.weedle_grammar.proofs.Suffix.{nothing, then, then_fails, fails}
use Rattle.weedle_grammar.specs.Meaning.{Plain, ReadsSeq, by_opt, by_seq}
use Rattle.weedle_grammar.specs.Rows.{Seq, Opt}
use Rattle.weedle_grammar.specs.written.Table.{webidl, row_of, shape_of, Reads}
use Rattle.weedle_grammar.specs.Trees.{Tree, Node, trees, Fails, Gives}

-- the reading is that of parts one after another, with these trees of a value
pub record IsSeq {V : Type 0} (R : Reading V) (rs : List ℕ) (ts : V → List Tree) (grows : Type 0) : Type 0 where
  pub gives : (s : List ℕ) (v : V) (k : ℕ) → R.gives s v k → Parts s rs (ts v) k
  pub refuses : (s : List ℕ) → R.refuses s → ReadsSeq webidl s rs 0 None
  pub stops : (s x : List ℕ) (code : ErrorKind) → R.stops s x code → stops_for_memory grows s x code

module _ {V : Type 0} (r : ℕ) (tree : V → Tree) (grows : Type 0) where
  -- the reading of a rule is that of the rule
  pub own_rule : IsRule (own r tree grows) r tree grows
  unfolding own
  own_rule = record { gives = λ s v k h. h; refuses = λ s h. h; stops = λ s x code h. h }

-- a terminal
abbrev pub mark : {V : Type 0} → ℕ → Reading V
mark r = own r mark_tree ⊥

pub mark_rule : {V : Type 0} (r : ℕ) → IsRule (mark {V = V} r) r mark_tree ⊥
mark_rule r = own_rule r mark_tree ⊥

-- what asks for no memory
pub still_rule : {V : Type 0} {R : Reading V} {r : ℕ} {tree : V → Tree} {grows : Type 0} → IsRule R r tree ⊥ → IsRule R r tree grows
still_rule h = record { gives = h.gives; refuses = h.refuses; stops = λ s x code m. absurd (h.stops s x code m).0 }

module _ {V : Type 0} {R : Reading V} {r : ℕ} {tree : V → Tree} {grows more : Type 0} where
  -- what asks for more memory
  pub wider_rule : (grows → more) → IsRule R r tree grows → IsRule R r tree more
  wider_rule f h = record { gives = h.gives; refuses = h.refuses; stops = λ s x code m. let a = h.stops s x code m in (f a.0, a.1, a.2) }

  -- a value that holds another is read by the other's rule
  pub boxed_rule : {B : Type 0} (inside : B → V) → more → (grows → more) → IsRule R r tree grows
      → IsRule (boxed_reading inside R) r (λ b. tree (inside b)) more
  unfolding boxed_reading
  boxed_rule inside m f h = record {
    gives = λ s b k g. h.gives s (inside b) k g;
    refuses = h.refuses;
    stops = λ s x code e. elim e [ inl a ↦ (m, a.0, a.1) | inr b ↦ (let a = h.stops s x code b in (f a.0, a.1, a.2)) ];
  }

module _ {V : Type 0} {R : Reading V} {r : ℕ} {tree : V → Tree} {grows : Type 0} where
  -- a value that is seen as another is read by the other's rule
  pub seen_rule : {X : Type 0} (view : X → V) → IsRule R r tree grows → IsRule (seen_reading view R) r (λ x. tree (view x)) grows
  unfolding seen_reading
  seen_rule view h = record { gives = λ s x k g. h.gives s (view x) k g; refuses = h.refuses; stops = h.stops }

module _ {V : Type 0} {R : Reading V} {x : ℕ} {tree : V → Tree} {grows : Type 0} (rule : IsRule R x tree grows) where
  module _ (r : ℕ) (row : row_of r ≡ Opt x) (shape : shape_of r ≡ Plain) where
    option_rule_gives : (s : List ℕ) (v : Option V) (k : ℕ) → option_gives R s v k → Reads s r 0 (Gives (option_tree tree v ∷ []) k)
    option_rule_gives s (Some v) k h = of_row row (by_opt (rule.gives s v k h) refl) (rw shape refl)
    option_rule_gives s None k h = of_row row (by_opt (rule.refuses s h.0) refl) (rw (shape, h.1) refl)

    -- an option is read by a rule that may be absent
    pub option_rule : IsRule (option_reading R) r (option_tree tree) grows
    unfolding option_reading
    option_rule = record { gives = option_rule_gives; refuses = λ s h. absurd h; stops = rule.stops }

  -- the last part of a sequence
  pub seq_last : IsSeq R (x ∷ []) (λ v. tree v ∷ []) grows
  seq_last = record {
    gives = λ s v k h. record { pieces = _; reads = then (rule.gives s v k h) nothing; given = refl; end = refl };
    refuses = λ s h. fails (rule.refuses s h);
    stops = rule.stops;
  }

parts_then : {s rs : List ℕ} {r i j : ℕ} {t : Tree} {ts : List Tree} → Reads s r 0 (Gives (t ∷ []) i) → Parts (drop i s) rs ts j
    → Parts s (r ∷ rs) (t ∷ ts) (i + j)
parts_then d m = parts_on d refl m

module _ {V W : Type 0} {R : Reading V} {S : Reading W} {r : ℕ} {rs : List ℕ} {tree : V → Tree} {ts : W → List Tree} {grows : Type 0}
    (rule : IsRule R r tree grows) (others : IsSeq S rs ts grows) where
  next_gives : (s : List ℕ) (x : V × W) (k : ℕ) → (pair_reading R S).gives s x k → Parts s (r ∷ rs) (tree x.0 ∷ ts x.1) k
  unfolding pair_reading
  next_gives s x k h = rw h.4 (parts_then (rule.gives s x.0 h.0 h.2) (others.gives (drop h.0 s) x.1 h.1 h.3))

  next_refuses : (s : List ℕ) → (pair_reading R S).refuses s → ReadsSeq webidl s (r ∷ rs) 0 None
  unfolding pair_reading
  next_refuses s (inl h) = fails (rule.refuses s h)
  next_refuses s (inr h) = then_fails (rule.gives s h.0 h.1 h.2) (others.refuses (drop h.1 s) h.3)

  next_stops : (s x : List ℕ) (code : ErrorKind) → (pair_reading R S).stops s x code → stops_for_memory grows s x code
  unfolding pair_reading
  next_stops s x code (inl h) = rule.stops s x code h
  next_stops s x code (inr h) = let m = others.stops (drop h.1 s) x code h.3 in (m.0, m.1, suffix_along s (drop h.1 s) x h.1 refl m.2)

  -- a part before others
  pub seq_next : IsSeq (pair_reading R S) (r ∷ rs) (λ x. tree x.0 ∷ ts x.1) grows
  unfolding pair_reading
  seq_next = record { gives = next_gives; refuses = next_refuses; stops = next_stops }

parts_node : {s rs : List ℕ} {ts : List Tree} {k : ℕ} (r : ℕ) → row_of r ≡ Seq rs → shape_of r ≡ Plain → Parts s rs ts k
    → Reads s r 0 (Gives (Node (trees ts) ∷ []) k)
parts_node r row shape m = of_row row (by_seq m.reads refl) (rw (shape, m.given, m.end) refl)

-- a rule whose row is a sequence
module _ {V : Type 0} {R : Reading V} {rs : List ℕ} {ts : V → List Tree} {grows : Type 0}
    (all : IsSeq R rs ts grows) (r : ℕ) (row : row_of r ≡ Seq rs) where
  -- where the parts refuse, the rule fails
  pub no_seq : (s : List ℕ) → R.refuses s → Reads s r 0 Fails
  no_seq s h = of_row row (by_seq (all.refuses s h) refl) refl

  -- parts one after another are read by the rule whose row is the sequence of their rules
  pub seq_rule : shape_of r ≡ Plain → IsRule R r (λ v. Node (trees (ts v))) grows
  seq_rule shape = record { gives = λ s v k h. parts_node r row shape (all.gives s v k h); refuses = no_seq; stops = all.stops }

-- From an answer of R to one of a type with R's rule.
module _ {V X : Type 0} {R : Reading V} {r : ℕ} {tree : V → Tree} {grows : Type 0} (rule : IsRule R r tree grows) (of : X → Tree) where
  -- what a reading gave that is the rule's, the rule gave
  pub got_rule : {s rest : List ℕ} {v : V} (x : X) → Got R s v rest → tree v ≡ of x → Got (own r of grows) s x rest
  unfolding own
  got_rule {s} {rest} {v} x h e = record {
    place = h.place;
    gives = subst (λ (t : Tree). Reads s r 0 (Gives (t ∷ []) h.place)) e (rule.gives s v h.place h.gives);
    within = h.within;
    rest_is = h.rest_is;
    text = h.text;
  }

  says_rule : (s : List ℕ) (e : Fault (Error (Bor (List ℕ)))) → FaultSays R s e → FaultSays (own r of grows) s e
  unfolding own
  says_rule s (Recoverable e) h = (rule.refuses s h.0, h.1, h.2)
  says_rule s (Failure e) h = rule.stops s e.input.now e.code h

  -- where such a reading ended with a fault, so does the type with the rule
  pub fault_rule : {s : List ℕ} {e : Fault (Error (Bor (List ℕ)))} → Faults R s e → Faults (own r of grows) s e
  unfolding own
  fault_rule {s} {e} h = record { says = says_rule s e h.says }

-- three parts one after another
pub triple_rule : {T U V : Type 0} {P : Reading T} {Q : Reading U} {R : Reading V} {x y z : ℕ}
    {f : T → Tree} {g : U → Tree} {h : V → Tree} {grows : Type 0}
    → {X : Type 0} (view : X → T × (U × V)) → IsRule P x f grows → IsRule Q y g grows → IsRule R z h grows
    → (r : ℕ) → row_of r ≡ Seq (x ∷ y ∷ z ∷ []) → shape_of r ≡ Plain
    → IsRule (seen_reading view (pair_reading P (pair_reading Q R))) r (λ t. Node (trees (f (view t).0 ∷ g (view t).1.0 ∷ h (view t).1.1 ∷ []))) grows
triple_rule view a b c r row shape = seen_rule view (seq_rule (seq_next a (seq_next b (seq_last c))) r row shape)

-- two parts one after the other
pub pair_rule : {T U : Type 0} {P : Reading T} {Q : Reading U} {x y : ℕ} {f : T → Tree} {g : U → Tree} {grows : Type 0}
    → IsRule P x f grows → IsRule Q y g grows → (r : ℕ) → row_of r ≡ Seq (x ∷ y ∷ []) → shape_of r ≡ Plain
    → IsRule (pair_reading P Q) r (λ t. Node (trees (f t.0 ∷ g t.1 ∷ []))) grows
pair_rule a b r row shape = seq_rule (seq_next a (seq_last b)) r row shape

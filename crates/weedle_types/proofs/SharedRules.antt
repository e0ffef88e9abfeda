-- How the parts that members and definitions share are read, and that this is what their rules read.
use Rattle.std.proofs.Common.{refl}
use Rattle.std.specs.Borrow.{Bor}
use Rattle.std.specs.Global.{Vec}
use Rattle.std.specs.Prelude.{Err, List, Ok, Result, [], ℕ, ◌∷◌, ◌≡◌}
use Rattle.weedle_base.proofs.RuleFacts.{fault_rule, got_rule, mark, mark_rule, option_rule, own_rule, still_rule}
use Rattle.weedle_base.proofs.RunRules.{run_rule}
use Rattle.weedle_base.specs.Generic.{option_reading}
use Rattle.weedle_base.specs.Own.{own}
use Rattle.weedle_base.specs.Reading.{Answers, Reading}
use Rattle.weedle_base.specs.Rules.{IsRule, mark_tree, option_tree}
use Rattle.weedle_base.specs.Runs.{run_reading, vec_step}
use Rattle.weedle_base.specs.declared.fault.Err.{Err as Fault}
use Rattle.weedle_base.specs.declared.fault.Error.{Error}
use Rattle.weedle_grammar.specs.Meaning.{Plain}
use Rattle.weedle_grammar.specs.Rows.{Many, Opt}
use Rattle.weedle_grammar.specs.written.Table.Types.{OPT_EXTENDED_ATTRIBUTE_LIST}
use Rattle.weedle_grammar.specs.written.Table.{row_of, shape_of}
use Rattle.weedle_grammar.specs.Trees.{Tree}
use Rattle.weedle_types.specs.PartTrees.{Attributes, members_tree}
use Rattle.weedle_types.specs.Trees.{attributes_tree}

-- a terminal, among parts that may run out of memory
pub word : {V : Type 0} (r : ℕ) → IsRule (mark {V = V} r) r mark_tree (Unit {0})
word r = still_rule (mark_rule r)

-- what takes no memory and may be absent, among such parts
pub perhaps : {V : Type 0} {R : Reading V} {x : ℕ} {tree : V → Tree} → IsRule R x tree ⊥ → (r : ℕ) → row_of r ≡ Opt x → shape_of r ≡ Plain
    → IsRule (option_reading R) r (option_tree tree) (Unit {0})
perhaps rule r row shape = still_rule (option_rule rule r row shape)

-- extended attributes
abbrev pub attributes_reading : Reading Attributes
attributes_reading = own OPT_EXTENDED_ATTRIBUTE_LIST attributes_tree (Unit {0})

pub attributes_rule : IsRule attributes_reading OPT_EXTENDED_ATTRIBUTE_LIST attributes_tree (Unit {0})
attributes_rule = own_rule OPT_EXTENDED_ATTRIBUTE_LIST attributes_tree (Unit {0})

-- members one after another
abbrev pub members_reading : {V : Type 0} → Reading V → Reading (Vec V)
members_reading R = run_reading (λ v. v.items) (vec_step R)

pub members_rule : {V : Type 0} {R : Reading V} {x : ℕ} {tree : V → Tree} → IsRule R x tree (Unit {0}) → (r : ℕ) → row_of r ≡ Many x → shape_of r ≡ Plain
    → IsRule (members_reading R) r (members_tree tree) (Unit {0})
members_rule rule r row shape = run_rule rule (λ v. v.items) r row shape tt

-- what a reading of a rule answers, the rule answers
pub answers_rule : {V : Type 0} {R : Reading V} {r : ℕ} {tree : V → Tree} {grows : Type 0} (s : List ℕ) → IsRule R r tree grows
    → (result : Result (Bor (List ℕ) × V) (Fault (Error (Bor (List ℕ))))) → Answers R s result → Answers (own r tree grows) s result
answers_rule {tree = tree} s rule (Ok x) h = got_rule rule tree x.1 h refl
answers_rule {tree = tree} s rule (Err e) h = fault_rule rule tree h

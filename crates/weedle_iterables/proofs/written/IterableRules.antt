-- Iterations. Written by tools/idl_proofs.py, and not edited by hand.
use Rattle.std.proofs.Common.{refl}
use Rattle.std.specs.Borrow.{Bor}
use Rattle.std.specs.Prelude.{ℕ, List, [], ◌∷◌}
use Rattle.weedle_base.proofs.ChoiceFacts.{choice_tree, first_last, first_more, first_rule}
use Rattle.weedle_base.proofs.ChoiceSteps.{first_seen}
use Rattle.weedle_base.proofs.RuleFacts.{fault_rule, got_rule, mark, own_rule, seq_last, seq_next, seq_rule}
use Rattle.weedle_base.specs.Choices.{choice_view}
use Rattle.weedle_base.specs.Generic.{choice_reading, pair_reading, seen_reading}
use Rattle.weedle_base.specs.Own.{own}
use Rattle.weedle_base.specs.Reading.{Faults, Got, Reading}
use Rattle.weedle_base.specs.Rules.{IsRule}
use Rattle.weedle_base.specs.declared.choice.Choice.TheVariants.{First, Second}
use Rattle.weedle_base.specs.declared.choice.Choice.{Choice}
use Rattle.weedle_base.specs.declared.fault.Err.{Err as Fault}
use Rattle.weedle_base.specs.declared.fault.Error.{Error}
use Rattle.weedle_base.specs.declared.term.written.definition_keywords.Iterable.{Iterable}
use Rattle.weedle_base.specs.declared.term.written.symbols.SemiColon.{SemiColon}
use Rattle.weedle_grammar.specs.Trees.{Alt, Mark, Node, trees}
use Rattle.weedle_grammar.specs.written.Table.InterfaceMembers.{DOUBLE_TYPED_ITERABLE, ITERABLE_INTERFACE_MEMBER, SINGLE_TYPED_ITERABLE}
use Rattle.weedle_grammar.specs.written.Table.Keywords.{ITERABLE}
use Rattle.weedle_grammar.specs.written.Table.Symbols.{SEMI_COLON}
use Rattle.weedle_iterables.specs.declared.iterable.DoubleTypedIterable.{DoubleTypedIterable}
use Rattle.weedle_iterables.specs.declared.iterable.IterableInterfaceMember.TheVariants.{Single as IsSingle, Double as IsDouble}
use Rattle.weedle_iterables.specs.declared.iterable.IterableInterfaceMember.{IterableInterfaceMember}
use Rattle.weedle_iterables.specs.declared.iterable.SingleTypedIterable.{SingleTypedIterable}
use Rattle.weedle_iterables.specs.written.Trees.{double_typed_iterable_tree, iterable_interface_member_tree, single_typed_iterable_tree}
use Rattle.weedle_types.proofs.GenericsRules.{one_type_reading, one_type_rule, two_types_reading, two_types_rule}
use Rattle.weedle_types.proofs.SharedRules.{attributes_reading, attributes_rule, word}
use Rattle.weedle_types.specs.GenericsTrees.{OneType, TwoTypes, one_type_tree, two_types_tree}
use Rattle.weedle_types.specs.PartTrees.{Attributes}
use Rattle.weedle_types.specs.Trees.{attributes_tree}

-- one type
abbrev single_typed_iterable_parts : Reading (Attributes × (Iterable × (OneType × SemiColon)))
single_typed_iterable_parts = pair_reading attributes_reading (pair_reading (mark ITERABLE) (pair_reading one_type_reading (mark SEMI_COLON)))

single_typed_iterable_rule : IsRule single_typed_iterable_parts SINGLE_TYPED_ITERABLE (λ x. Node (trees (attributes_tree x.0 ∷ Mark ∷ one_type_tree x.1.1.0 ∷ Mark ∷ []))) (Unit {0})
single_typed_iterable_rule = seq_rule (seq_next attributes_rule (seq_next (word ITERABLE) (seq_next one_type_rule (seq_last (word SEMI_COLON))))) SINGLE_TYPED_ITERABLE refl refl

-- the parts give what the rule gives
pub single_typed_iterable_got : {s rest : List ℕ} (x : SingleTypedIterable) → Got single_typed_iterable_parts s (x.attributes, (x.iterable, (x.generics, x.semi_colon))) rest → Got (own SINGLE_TYPED_ITERABLE single_typed_iterable_tree (Unit {0})) s x rest
single_typed_iterable_got x h = got_rule single_typed_iterable_rule single_typed_iterable_tree x h refl

-- a fault of the parts is one of the rule
pub single_typed_iterable_fault : {s : List ℕ} {e : Fault (Error (Bor (List ℕ)))} → Faults single_typed_iterable_parts s e → Faults (own SINGLE_TYPED_ITERABLE single_typed_iterable_tree (Unit {0})) s e
single_typed_iterable_fault h = fault_rule single_typed_iterable_rule single_typed_iterable_tree h

-- two types
abbrev double_typed_iterable_parts : Reading (Attributes × (Iterable × (TwoTypes × SemiColon)))
double_typed_iterable_parts = pair_reading attributes_reading (pair_reading (mark ITERABLE) (pair_reading two_types_reading (mark SEMI_COLON)))

double_typed_iterable_rule : IsRule double_typed_iterable_parts DOUBLE_TYPED_ITERABLE (λ x. Node (trees (attributes_tree x.0 ∷ Mark ∷ two_types_tree x.1.1.0 ∷ Mark ∷ []))) (Unit {0})
double_typed_iterable_rule = seq_rule (seq_next attributes_rule (seq_next (word ITERABLE) (seq_next two_types_rule (seq_last (word SEMI_COLON))))) DOUBLE_TYPED_ITERABLE refl refl

-- the parts give what the rule gives
pub double_typed_iterable_got : {s rest : List ℕ} (x : DoubleTypedIterable) → Got double_typed_iterable_parts s (x.attributes, (x.iterable, (x.generics, x.semi_colon))) rest → Got (own DOUBLE_TYPED_ITERABLE double_typed_iterable_tree (Unit {0})) s x rest
double_typed_iterable_got x h = got_rule double_typed_iterable_rule double_typed_iterable_tree x h refl

-- a fault of the parts is one of the rule
pub double_typed_iterable_fault : {s : List ℕ} {e : Fault (Error (Bor (List ℕ)))} → Faults double_typed_iterable_parts s e → Faults (own DOUBLE_TYPED_ITERABLE double_typed_iterable_tree (Unit {0})) s e
double_typed_iterable_fault h = fault_rule double_typed_iterable_rule double_typed_iterable_tree h

-- either
abbrev iterable_interface_member_parts : Reading (Choice SingleTypedIterable DoubleTypedIterable)
iterable_interface_member_parts = seen_reading choice_view (choice_reading (own SINGLE_TYPED_ITERABLE single_typed_iterable_tree (Unit {0})) (own DOUBLE_TYPED_ITERABLE double_typed_iterable_tree (Unit {0})))

-- which of the alternatives a value is
abbrev iterable_interface_member_view : IterableInterfaceMember → Choice SingleTypedIterable DoubleTypedIterable
iterable_interface_member_view (IsSingle v) = First v
iterable_interface_member_view (IsDouble v) = Second v

iterable_interface_member_rule : IsRule iterable_interface_member_parts ITERABLE_INTERFACE_MEMBER (λ x. choice_tree (λ v. Alt 0 (single_typed_iterable_tree v)) (λ v. Alt 1 (double_typed_iterable_tree v)) (choice_view x)) (Unit {0})
iterable_interface_member_rule = first_rule (first_seen choice_view (first_more 0 (own_rule SINGLE_TYPED_ITERABLE single_typed_iterable_tree (Unit {0})) (first_last 1 (own_rule DOUBLE_TYPED_ITERABLE double_typed_iterable_tree (Unit {0}))))) ITERABLE_INTERFACE_MEMBER refl refl

-- the parts give what the rule gives
pub iterable_interface_member_got : {s rest : List ℕ} (x : IterableInterfaceMember) → Got iterable_interface_member_parts s (iterable_interface_member_view x) rest → Got (own ITERABLE_INTERFACE_MEMBER iterable_interface_member_tree (Unit {0})) s x rest
iterable_interface_member_got (IsSingle v) h = got_rule iterable_interface_member_rule iterable_interface_member_tree _ h refl
iterable_interface_member_got (IsDouble v) h = got_rule iterable_interface_member_rule iterable_interface_member_tree _ h refl

-- a fault of the parts is one of the rule
pub iterable_interface_member_fault : {s : List ℕ} {e : Fault (Error (Bor (List ℕ)))} → Faults iterable_interface_member_parts s e → Faults (own ITERABLE_INTERFACE_MEMBER iterable_interface_member_tree (Unit {0})) s e
iterable_interface_member_fault h = fault_rule iterable_interface_member_rule iterable_interface_member_tree h

-- what the search for the proof of its `parse` uses
pub ruleset single_typed_iterable_steps = (single_typed_iterable_got, single_typed_iterable_fault)

-- what the search for the proof of its `parse` uses
pub ruleset double_typed_iterable_steps = (double_typed_iterable_got, double_typed_iterable_fault)

-- what the search for the proof of its `parse` uses
pub ruleset iterable_interface_member_steps = (iterable_interface_member_got, iterable_interface_member_fault)

-- Asynchronous iterations. Written by tools/idl_proofs.py, and not edited by hand.
use Rattle.std.proofs.Common.{refl}
use Rattle.std.specs.Borrow.{Bor}
use Rattle.std.specs.Prelude.{ℕ, List, [], ◌∷◌, Option}
use Rattle.weedle_base.proofs.ChoiceFacts.{choice_tree, first_last, first_more, first_rule}
use Rattle.weedle_base.proofs.ChoiceSteps.{first_seen}
use Rattle.weedle_base.proofs.RuleFacts.{fault_rule, got_rule, mark, own_rule, seq_last, seq_next, seq_rule}
use Rattle.weedle_base.proofs.Steps.{part_steps}
use Rattle.weedle_base.specs.Choices.{choice_view}
use Rattle.weedle_base.specs.Generic.{choice_reading, pair_reading, seen_reading}
use Rattle.weedle_base.specs.Own.{own}
use Rattle.weedle_base.specs.Reading.{Faults, Got, Reading}
use Rattle.weedle_base.specs.Rules.{IsRule}
use Rattle.weedle_base.specs.declared.choice.Choice.TheVariants.{First, Second}
use Rattle.weedle_base.specs.declared.choice.Choice.{Choice}
use Rattle.weedle_base.specs.declared.fault.Err.{Err as Fault}
use Rattle.weedle_base.specs.declared.fault.Error.{Error}
use Rattle.weedle_base.specs.declared.term.written.symbols.SemiColon.{SemiColon}
use Rattle.weedle_grammar.specs.Trees.{Alt, Mark, Node, trees}
use Rattle.weedle_grammar.specs.written.Table.InterfaceMembers.{ASYNC_ITERABLE_INTERFACE_MEMBER, DOUBLE_TYPED_ASYNC_ITERABLE, SINGLE_TYPED_ASYNC_ITERABLE}
use Rattle.weedle_grammar.specs.written.Table.Symbols.{SEMI_COLON}
use Rattle.weedle_iterables.proofs.PartRules.{async_iterable_reading, async_iterable_rule, optional_arguments_reading, optional_arguments_rule}
use Rattle.weedle_iterables.specs.declared.async_iterable.AsyncIterableInterfaceMember.TheVariants.{Single as IsSingle, Double as IsDouble}
use Rattle.weedle_iterables.specs.declared.async_iterable.AsyncIterableInterfaceMember.{AsyncIterableInterfaceMember}
use Rattle.weedle_iterables.specs.declared.async_iterable.DoubleTypedAsyncIterable.{DoubleTypedAsyncIterable}
use Rattle.weedle_iterables.specs.declared.async_iterable.SingleTypedAsyncIterable.{SingleTypedAsyncIterable}
use Rattle.weedle_iterables.specs.written.PartTrees.{AsyncIterable, async_iterable_tree, optional_arguments_tree}
use Rattle.weedle_iterables.specs.written.Trees.{async_iterable_interface_member_tree, double_typed_async_iterable_tree, single_typed_async_iterable_tree}
use Rattle.weedle_types.proofs.GenericsRules.{one_type_reading, one_type_rule, two_types_reading, two_types_rule}
use Rattle.weedle_types.proofs.SharedRules.{attributes_reading, attributes_rule, word}
use Rattle.weedle_types.specs.GenericsTrees.{OneType, TwoTypes, one_type_tree, two_types_tree}
use Rattle.weedle_types.specs.PartTrees.{Attributes}
use Rattle.weedle_types.specs.Trees.{attributes_tree}
use Rattle.weedle_types.specs.declared.argument.ParenthesizedArgumentList.{ParenthesizedArgumentList}

-- one type
abbrev single_typed_async_iterable_parts : Reading (Attributes × (AsyncIterable × (OneType × ((Option ParenthesizedArgumentList) × SemiColon))))
single_typed_async_iterable_parts = pair_reading attributes_reading (pair_reading async_iterable_reading (pair_reading one_type_reading (pair_reading optional_arguments_reading (mark SEMI_COLON))))

single_typed_async_iterable_rule : IsRule single_typed_async_iterable_parts SINGLE_TYPED_ASYNC_ITERABLE (λ x. Node (trees (attributes_tree x.0 ∷ async_iterable_tree x.1.0 ∷ one_type_tree x.1.1.0 ∷ optional_arguments_tree x.1.1.1.0 ∷ Mark ∷ []))) (Unit {0})
single_typed_async_iterable_rule = seq_rule (seq_next attributes_rule (seq_next async_iterable_rule (seq_next one_type_rule (seq_next optional_arguments_rule (seq_last (word SEMI_COLON)))))) SINGLE_TYPED_ASYNC_ITERABLE refl refl

-- the parts give what the rule gives
pub single_typed_async_iterable_got : {s rest : List ℕ} (x : SingleTypedAsyncIterable) → Got single_typed_async_iterable_parts s (x.attributes, (x.async_iterable, (x.generics, (x.args, x.semi_colon)))) rest → Got (own SINGLE_TYPED_ASYNC_ITERABLE single_typed_async_iterable_tree (Unit {0})) s x rest
single_typed_async_iterable_got x h = got_rule single_typed_async_iterable_rule single_typed_async_iterable_tree x h refl

-- a fault of the parts is one of the rule
pub single_typed_async_iterable_fault : {s : List ℕ} {e : Fault (Error (Bor (List ℕ)))} → Faults single_typed_async_iterable_parts s e → Faults (own SINGLE_TYPED_ASYNC_ITERABLE single_typed_async_iterable_tree (Unit {0})) s e
single_typed_async_iterable_fault h = fault_rule single_typed_async_iterable_rule single_typed_async_iterable_tree h

-- two types
abbrev double_typed_async_iterable_parts : Reading (Attributes × (AsyncIterable × (TwoTypes × ((Option ParenthesizedArgumentList) × SemiColon))))
double_typed_async_iterable_parts = pair_reading attributes_reading (pair_reading async_iterable_reading (pair_reading two_types_reading (pair_reading optional_arguments_reading (mark SEMI_COLON))))

double_typed_async_iterable_rule : IsRule double_typed_async_iterable_parts DOUBLE_TYPED_ASYNC_ITERABLE (λ x. Node (trees (attributes_tree x.0 ∷ async_iterable_tree x.1.0 ∷ two_types_tree x.1.1.0 ∷ optional_arguments_tree x.1.1.1.0 ∷ Mark ∷ []))) (Unit {0})
double_typed_async_iterable_rule = seq_rule (seq_next attributes_rule (seq_next async_iterable_rule (seq_next two_types_rule (seq_next optional_arguments_rule (seq_last (word SEMI_COLON)))))) DOUBLE_TYPED_ASYNC_ITERABLE refl refl

-- the parts give what the rule gives
pub double_typed_async_iterable_got : {s rest : List ℕ} (x : DoubleTypedAsyncIterable) → Got double_typed_async_iterable_parts s (x.attributes, (x.async_iterable, (x.generics, (x.args, x.semi_colon)))) rest → Got (own DOUBLE_TYPED_ASYNC_ITERABLE double_typed_async_iterable_tree (Unit {0})) s x rest
double_typed_async_iterable_got x h = got_rule double_typed_async_iterable_rule double_typed_async_iterable_tree x h refl

-- a fault of the parts is one of the rule
pub double_typed_async_iterable_fault : {s : List ℕ} {e : Fault (Error (Bor (List ℕ)))} → Faults double_typed_async_iterable_parts s e → Faults (own DOUBLE_TYPED_ASYNC_ITERABLE double_typed_async_iterable_tree (Unit {0})) s e
double_typed_async_iterable_fault h = fault_rule double_typed_async_iterable_rule double_typed_async_iterable_tree h

-- either
abbrev async_iterable_interface_member_parts : Reading (Choice SingleTypedAsyncIterable DoubleTypedAsyncIterable)
async_iterable_interface_member_parts = seen_reading choice_view (choice_reading (own SINGLE_TYPED_ASYNC_ITERABLE single_typed_async_iterable_tree (Unit {0})) (own DOUBLE_TYPED_ASYNC_ITERABLE double_typed_async_iterable_tree (Unit {0})))

-- which of the alternatives a value is
abbrev async_iterable_interface_member_view : AsyncIterableInterfaceMember → Choice SingleTypedAsyncIterable DoubleTypedAsyncIterable
async_iterable_interface_member_view (IsSingle v) = First v
async_iterable_interface_member_view (IsDouble v) = Second v

async_iterable_interface_member_rule : IsRule async_iterable_interface_member_parts ASYNC_ITERABLE_INTERFACE_MEMBER (λ x. choice_tree (λ v. Alt 0 (single_typed_async_iterable_tree v)) (λ v. Alt 1 (double_typed_async_iterable_tree v)) (choice_view x)) (Unit {0})
async_iterable_interface_member_rule = first_rule (first_seen choice_view (first_more 0 (own_rule SINGLE_TYPED_ASYNC_ITERABLE single_typed_async_iterable_tree (Unit {0})) (first_last 1 (own_rule DOUBLE_TYPED_ASYNC_ITERABLE double_typed_async_iterable_tree (Unit {0}))))) ASYNC_ITERABLE_INTERFACE_MEMBER refl refl

-- the parts give what the rule gives
pub async_iterable_interface_member_got : {s rest : List ℕ} (x : AsyncIterableInterfaceMember) → Got async_iterable_interface_member_parts s (async_iterable_interface_member_view x) rest → Got (own ASYNC_ITERABLE_INTERFACE_MEMBER async_iterable_interface_member_tree (Unit {0})) s x rest
async_iterable_interface_member_got (IsSingle v) h = got_rule async_iterable_interface_member_rule async_iterable_interface_member_tree _ h refl
async_iterable_interface_member_got (IsDouble v) h = got_rule async_iterable_interface_member_rule async_iterable_interface_member_tree _ h refl

-- a fault of the parts is one of the rule
pub async_iterable_interface_member_fault : {s : List ℕ} {e : Fault (Error (Bor (List ℕ)))} → Faults async_iterable_interface_member_parts s e → Faults (own ASYNC_ITERABLE_INTERFACE_MEMBER async_iterable_interface_member_tree (Unit {0})) s e
async_iterable_interface_member_fault h = fault_rule async_iterable_interface_member_rule async_iterable_interface_member_tree h

-- what the search for the proof of its `parse` uses
pub ruleset single_typed_async_iterable_steps = (part_steps, single_typed_async_iterable_got, single_typed_async_iterable_fault)

-- what the search for the proof of its `parse` uses
pub ruleset double_typed_async_iterable_steps = (part_steps, double_typed_async_iterable_got, double_typed_async_iterable_fault)

-- what the search for the proof of its `parse` uses
pub ruleset async_iterable_interface_member_steps = (async_iterable_interface_member_got, async_iterable_interface_member_fault)

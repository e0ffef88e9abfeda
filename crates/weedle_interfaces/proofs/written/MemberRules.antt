-- Members of interfaces. Written by tools/idl_proofs.py, and not edited by hand.
use Rattle.std.proofs.Common.{inl, inr, refl}
use Rattle.std.specs.Borrow.{Bor}
use Rattle.std.specs.Prelude.{ℕ, List, ◌⊎◌}
use Rattle.weedle_base.proofs.ChoiceFacts.{IsFirst, choice_tree, first_last, first_more, first_rule}
use Rattle.weedle_base.proofs.ChoiceSteps.{first_seen}
use Rattle.weedle_base.proofs.RuleFacts.{fault_rule, got_rule, own_rule}
use Rattle.weedle_base.specs.Choices.{choice_view}
use Rattle.weedle_base.specs.Generic.{choice_reading, seen_reading}
use Rattle.weedle_base.specs.Own.{own}
use Rattle.weedle_base.specs.Reading.{Faults, Got, Reading}
use Rattle.weedle_base.specs.Rules.{IsRule}
use Rattle.weedle_base.specs.declared.choice.Choice.TheVariants.{First, Second}
use Rattle.weedle_base.specs.declared.choice.Choice.{Choice}
use Rattle.weedle_base.specs.declared.fault.Err.{Err as Fault}
use Rattle.weedle_base.specs.declared.fault.Error.{Error}
use Rattle.weedle_grammar.specs.Trees.{Alt}
use Rattle.weedle_grammar.specs.written.Table.InterfaceMembers.{ASYNC_ITERABLE_INTERFACE_MEMBER, ATTRIBUTE_INTERFACE_MEMBER, CONSTRUCTOR_INTERFACE_MEMBER, CONST_MEMBER, INTERFACE_MEMBER, ITERABLE_INTERFACE_MEMBER, MAPLIKE_INTERFACE_MEMBER, OPERATION_INTERFACE_MEMBER, SETLIKE_INTERFACE_MEMBER, STRINGIFIER_MEMBER}
use Rattle.weedle_interfaces.specs.Pieces.{collection_member_rules, iterable_member_rules, main_member_rules}
use Rattle.weedle_interfaces.specs.declared.member.InterfaceMember.TheVariants.{Const as IsConst, Attribute as IsAttribute, Constructor as IsConstructor, Operation as IsOperation, Iterable as IsIterable, AsyncIterable as IsAsyncIterable, Maplike as IsMaplike, Setlike as IsSetlike, Stringifier as IsStringifier}
use Rattle.weedle_interfaces.specs.declared.member.InterfaceMember.{InterfaceMember}
use Rattle.weedle_interfaces.specs.written.Trees.{interface_member_tree}
use Rattle.weedle_iterables.specs.declared.async_iterable.AsyncIterableInterfaceMember.{AsyncIterableInterfaceMember}
use Rattle.weedle_iterables.specs.declared.collection.MaplikeInterfaceMember.{MaplikeInterfaceMember}
use Rattle.weedle_iterables.specs.declared.collection.SetlikeInterfaceMember.{SetlikeInterfaceMember}
use Rattle.weedle_iterables.specs.declared.iterable.IterableInterfaceMember.{IterableInterfaceMember}
use Rattle.weedle_iterables.specs.written.Trees.{async_iterable_interface_member_tree, iterable_interface_member_tree, maplike_interface_member_tree, setlike_interface_member_tree}
use Rattle.weedle_members.specs.declared.attribute.AttributeInterfaceMember.{AttributeInterfaceMember}
use Rattle.weedle_members.specs.declared.constant.ConstMember.{ConstMember}
use Rattle.weedle_members.specs.declared.operation.ConstructorInterfaceMember.{ConstructorInterfaceMember}
use Rattle.weedle_members.specs.declared.operation.OperationInterfaceMember.{OperationInterfaceMember}
use Rattle.weedle_members.specs.declared.stringifier.StringifierMember.{StringifierMember}
use Rattle.weedle_members.specs.written.Trees.{attribute_interface_member_tree, const_member_tree, constructor_interface_member_tree, operation_interface_member_tree, stringifier_member_tree}
use Rattle.weedle_types.proofs.Direct.{direct_choice, fault_members, first_piece, got_members, members_first}
use Rattle.weedle_types.specs.Steps.{members}

-- `main_member`
abbrev main_member_parts : Reading (Choice ConstMember (Choice AttributeInterfaceMember (Choice ConstructorInterfaceMember OperationInterfaceMember)))
main_member_parts = seen_reading choice_view (choice_reading (own CONST_MEMBER const_member_tree (Unit {0})) (seen_reading choice_view (choice_reading (own ATTRIBUTE_INTERFACE_MEMBER attribute_interface_member_tree (Unit {0})) (seen_reading choice_view (choice_reading (own CONSTRUCTOR_INTERFACE_MEMBER constructor_interface_member_tree (Unit {0})) (own OPERATION_INTERFACE_MEMBER operation_interface_member_tree (Unit {0})))))))

main_member_first : IsFirst main_member_parts main_member_rules 0 (λ x. choice_tree (λ v. Alt 0 (const_member_tree v)) (λ x. choice_tree (λ v. Alt 1 (attribute_interface_member_tree v)) (λ x. choice_tree (λ v. Alt 2 (constructor_interface_member_tree v)) (λ v. Alt 3 (operation_interface_member_tree v)) (choice_view x)) (choice_view x)) (choice_view x)) (Unit {0})
main_member_first = first_seen choice_view (first_more 0 (own_rule CONST_MEMBER const_member_tree (Unit {0})) (first_seen choice_view (first_more 1 (own_rule ATTRIBUTE_INTERFACE_MEMBER attribute_interface_member_tree (Unit {0})) (first_seen choice_view (first_more 2 (own_rule CONSTRUCTOR_INTERFACE_MEMBER constructor_interface_member_tree (Unit {0})) (first_last 3 (own_rule OPERATION_INTERFACE_MEMBER operation_interface_member_tree (Unit {0}))))))))

pub main_member_got_0 : {s rest : List ℕ} {v : ConstMember} → Got main_member_parts s (First v) rest → Got (members main_member_rules 0 interface_member_tree (Unit {0})) s (IsConst v) rest
main_member_got_0 {v = v} h = got_members main_member_first interface_member_tree (IsConst v) h refl

pub main_member_got_1 : {s rest : List ℕ} {v : AttributeInterfaceMember} → Got main_member_parts s (Second (First v)) rest → Got (members main_member_rules 0 interface_member_tree (Unit {0})) s (IsAttribute v) rest
main_member_got_1 {v = v} h = got_members main_member_first interface_member_tree (IsAttribute v) h refl

pub main_member_got_2 : {s rest : List ℕ} {v : ConstructorInterfaceMember} → Got main_member_parts s (Second (Second (First v))) rest → Got (members main_member_rules 0 interface_member_tree (Unit {0})) s (IsConstructor v) rest
main_member_got_2 {v = v} h = got_members main_member_first interface_member_tree (IsConstructor v) h refl

pub main_member_got_3 : {s rest : List ℕ} {v : OperationInterfaceMember} → Got main_member_parts s (Second (Second (Second v))) rest → Got (members main_member_rules 0 interface_member_tree (Unit {0})) s (IsOperation v) rest
main_member_got_3 {v = v} h = got_members main_member_first interface_member_tree (IsOperation v) h refl

pub main_member_fault : {s : List ℕ} {e : Fault (Error (Bor (List ℕ)))} → Faults main_member_parts s e → Faults (members main_member_rules 0 interface_member_tree (Unit {0})) s e
main_member_fault h = fault_members main_member_first interface_member_tree h

-- what the search for the proof of `main_member` uses
pub ruleset main_member_steps = (main_member_got_0, main_member_got_1, main_member_got_2, main_member_got_3, main_member_fault)

-- `iterable_member`
abbrev iterable_member_parts : Reading (Choice IterableInterfaceMember AsyncIterableInterfaceMember)
iterable_member_parts = seen_reading choice_view (choice_reading (own ITERABLE_INTERFACE_MEMBER iterable_interface_member_tree (Unit {0})) (own ASYNC_ITERABLE_INTERFACE_MEMBER async_iterable_interface_member_tree (Unit {0})))

iterable_member_first : IsFirst iterable_member_parts iterable_member_rules 4 (λ x. choice_tree (λ v. Alt 4 (iterable_interface_member_tree v)) (λ v. Alt 5 (async_iterable_interface_member_tree v)) (choice_view x)) (Unit {0})
iterable_member_first = first_seen choice_view (first_more 4 (own_rule ITERABLE_INTERFACE_MEMBER iterable_interface_member_tree (Unit {0})) (first_last 5 (own_rule ASYNC_ITERABLE_INTERFACE_MEMBER async_iterable_interface_member_tree (Unit {0}))))

pub iterable_member_got_0 : {s rest : List ℕ} {v : IterableInterfaceMember} → Got iterable_member_parts s (First v) rest → Got (members iterable_member_rules 4 interface_member_tree (Unit {0})) s (IsIterable v) rest
iterable_member_got_0 {v = v} h = got_members iterable_member_first interface_member_tree (IsIterable v) h refl

pub iterable_member_got_1 : {s rest : List ℕ} {v : AsyncIterableInterfaceMember} → Got iterable_member_parts s (Second v) rest → Got (members iterable_member_rules 4 interface_member_tree (Unit {0})) s (IsAsyncIterable v) rest
iterable_member_got_1 {v = v} h = got_members iterable_member_first interface_member_tree (IsAsyncIterable v) h refl

pub iterable_member_fault : {s : List ℕ} {e : Fault (Error (Bor (List ℕ)))} → Faults iterable_member_parts s e → Faults (members iterable_member_rules 4 interface_member_tree (Unit {0})) s e
iterable_member_fault h = fault_members iterable_member_first interface_member_tree h

-- what the search for the proof of `iterable_member` uses
pub ruleset iterable_member_steps = (iterable_member_got_0, iterable_member_got_1, iterable_member_fault)

-- `collection_member`
abbrev collection_member_parts : Reading (Choice MaplikeInterfaceMember (Choice SetlikeInterfaceMember StringifierMember))
collection_member_parts = seen_reading choice_view (choice_reading (own MAPLIKE_INTERFACE_MEMBER maplike_interface_member_tree (Unit {0})) (seen_reading choice_view (choice_reading (own SETLIKE_INTERFACE_MEMBER setlike_interface_member_tree (Unit {0})) (own STRINGIFIER_MEMBER stringifier_member_tree (Unit {0})))))

collection_member_first : IsFirst collection_member_parts collection_member_rules 6 (λ x. choice_tree (λ v. Alt 6 (maplike_interface_member_tree v)) (λ x. choice_tree (λ v. Alt 7 (setlike_interface_member_tree v)) (λ v. Alt 8 (stringifier_member_tree v)) (choice_view x)) (choice_view x)) (Unit {0})
collection_member_first = first_seen choice_view (first_more 6 (own_rule MAPLIKE_INTERFACE_MEMBER maplike_interface_member_tree (Unit {0})) (first_seen choice_view (first_more 7 (own_rule SETLIKE_INTERFACE_MEMBER setlike_interface_member_tree (Unit {0})) (first_last 8 (own_rule STRINGIFIER_MEMBER stringifier_member_tree (Unit {0}))))))

pub collection_member_got_0 : {s rest : List ℕ} {v : MaplikeInterfaceMember} → Got collection_member_parts s (First v) rest → Got (members collection_member_rules 6 interface_member_tree (Unit {0})) s (IsMaplike v) rest
collection_member_got_0 {v = v} h = got_members collection_member_first interface_member_tree (IsMaplike v) h refl

pub collection_member_got_1 : {s rest : List ℕ} {v : SetlikeInterfaceMember} → Got collection_member_parts s (Second (First v)) rest → Got (members collection_member_rules 6 interface_member_tree (Unit {0})) s (IsSetlike v) rest
collection_member_got_1 {v = v} h = got_members collection_member_first interface_member_tree (IsSetlike v) h refl

pub collection_member_got_2 : {s rest : List ℕ} {v : StringifierMember} → Got collection_member_parts s (Second (Second v)) rest → Got (members collection_member_rules 6 interface_member_tree (Unit {0})) s (IsStringifier v) rest
collection_member_got_2 {v = v} h = got_members collection_member_first interface_member_tree (IsStringifier v) h refl

pub collection_member_fault : {s : List ℕ} {e : Fault (Error (Bor (List ℕ)))} → Faults collection_member_parts s e → Faults (members collection_member_rules 6 interface_member_tree (Unit {0})) s e
collection_member_fault h = fault_members collection_member_first interface_member_tree h

-- what the search for the proof of `collection_member` uses
pub ruleset collection_member_steps = (collection_member_got_0, collection_member_got_1, collection_member_got_2, collection_member_fault)

-- all of them
abbrev interface_member_parts : Reading (InterfaceMember ⊎ (InterfaceMember ⊎ InterfaceMember))
interface_member_parts = choice_reading (members main_member_rules 0 interface_member_tree (Unit {0})) (choice_reading (members iterable_member_rules 4 interface_member_tree (Unit {0})) (members collection_member_rules 6 interface_member_tree (Unit {0})))

interface_member_rule : IsRule interface_member_parts INTERFACE_MEMBER (choice_tree interface_member_tree (choice_tree interface_member_tree interface_member_tree)) (Unit {0})
interface_member_rule = first_rule (first_piece 4 (members_first main_member_rules 0 interface_member_tree (Unit {0})) (first_piece 6 (members_first iterable_member_rules 4 interface_member_tree (Unit {0})) (members_first collection_member_rules 6 interface_member_tree (Unit {0})) refl) refl) INTERFACE_MEMBER refl refl

pub interface_member_got_0 : {s rest : List ℕ} {v : InterfaceMember} → Got interface_member_parts s (inl v) rest → Got (own INTERFACE_MEMBER interface_member_tree (Unit {0})) s v rest
interface_member_got_0 {v = v} h = got_rule interface_member_rule interface_member_tree v h refl

pub interface_member_got_1 : {s rest : List ℕ} {v : InterfaceMember} → Got interface_member_parts s (inr (inl v)) rest → Got (own INTERFACE_MEMBER interface_member_tree (Unit {0})) s v rest
interface_member_got_1 {v = v} h = got_rule interface_member_rule interface_member_tree v h refl

pub interface_member_got_2 : {s rest : List ℕ} {v : InterfaceMember} → Got interface_member_parts s (inr (inr v)) rest → Got (own INTERFACE_MEMBER interface_member_tree (Unit {0})) s v rest
interface_member_got_2 {v = v} h = got_rule interface_member_rule interface_member_tree v h refl

-- a fault of the parts is one of the rule
pub interface_member_fault : {s : List ℕ} {e : Fault (Error (Bor (List ℕ)))} → Faults interface_member_parts s e → Faults (own INTERFACE_MEMBER interface_member_tree (Unit {0})) s e
interface_member_fault h = fault_rule interface_member_rule interface_member_tree h

-- what the search for the proof of its `parse` uses
pub ruleset interface_member_steps = (direct_choice, interface_member_got_0, interface_member_got_1, interface_member_got_2, interface_member_fault)

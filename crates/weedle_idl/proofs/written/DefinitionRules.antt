-- Definitions. Written by tools/idl_proofs.py, and not edited by hand.
use Rattle.std.proofs.Common.{inl, inr, refl}
use Rattle.std.specs.Borrow.{Bor}
use Rattle.std.specs.Prelude.{ℕ, List, ◌⊎◌}
use Rattle.weedle_base.proofs.ChoiceFacts.{IsFirst, choice_tree, first_last, first_more, first_rule}
use Rattle.weedle_base.proofs.ChoiceSteps.{first_seen}
use Rattle.weedle_base.proofs.RuleFacts.{fault_rule, got_rule, own_rule}
use Rattle.weedle_base.specs.Choices.{choice_view}
use Rattle.weedle_base.specs.Generic.{choice_reading, seen_reading}
use Rattle.weedle_base.specs.Own.{own}
use Rattle.weedle_base.specs.Reading.{Faults, Got, Reading}
use Rattle.weedle_base.specs.Rules.{IsRule}
use Rattle.weedle_base.specs.declared.choice.Choice.TheVariants.{First, Second}
use Rattle.weedle_base.specs.declared.choice.Choice.{Choice}
use Rattle.weedle_base.specs.declared.fault.Err.{Err as Fault}
use Rattle.weedle_base.specs.declared.fault.Error.{Error}
use Rattle.weedle_grammar.specs.Trees.{Alt}
use Rattle.weedle_grammar.specs.written.Table.Definitions.{CALLBACK_DEFINITION, CALLBACK_INTERFACE_DEFINITION, DEFINITION, DICTIONARY_DEFINITION, ENUM_DEFINITION, IMPLEMENTS_DEFINITION, INCLUDES_STATEMENT_DEFINITION, INTERFACE_DEFINITION, INTERFACE_MIXIN_DEFINITION, NAMESPACE_DEFINITION, PARTIAL_DICTIONARY_DEFINITION, PARTIAL_INTERFACE_DEFINITION, PARTIAL_INTERFACE_MIXIN_DEFINITION, PARTIAL_NAMESPACE_DEFINITION, TYPEDEF_DEFINITION}
use Rattle.weedle_idl.specs.Pieces.{callback_or_interface_rules, main_definition_rules, other_definition_rules, partial_definition_rules}
use Rattle.weedle_idl.specs.declared.definition.Definition.TheVariants.{Callback as IsCallback, CallbackInterface as IsCallbackInterface, Interface as IsInterface, InterfaceMixin as IsInterfaceMixin, Namespace as IsNamespace, Dictionary as IsDictionary, PartialInterface as IsPartialInterface, PartialInterfaceMixin as IsPartialInterfaceMixin, PartialDictionary as IsPartialDictionary, PartialNamespace as IsPartialNamespace, Enum as IsEnum, Typedef as IsTypedef, IncludesStatement as IsIncludesStatement, Implements as IsImplements}
use Rattle.weedle_idl.specs.declared.definition.Definition.{Definition}
use Rattle.weedle_idl.specs.written.DefinitionTrees.{definition_tree}
use Rattle.weedle_interfaces.specs.declared.definition.CallbackInterfaceDefinition.{CallbackInterfaceDefinition}
use Rattle.weedle_interfaces.specs.declared.definition.InterfaceDefinition.{InterfaceDefinition}
use Rattle.weedle_interfaces.specs.declared.definition.PartialInterfaceDefinition.{PartialInterfaceDefinition}
use Rattle.weedle_interfaces.specs.written.Trees.{callback_interface_definition_tree, interface_definition_tree, partial_interface_definition_tree}
use Rattle.weedle_mixins.specs.declared.mixin_definition.InterfaceMixinDefinition.{InterfaceMixinDefinition}
use Rattle.weedle_mixins.specs.declared.mixin_definition.PartialInterfaceMixinDefinition.{PartialInterfaceMixinDefinition}
use Rattle.weedle_mixins.specs.written.Trees.{interface_mixin_definition_tree, partial_interface_mixin_definition_tree}
use Rattle.weedle_namespaces.specs.declared.dictionary_definition.DictionaryDefinition.{DictionaryDefinition}
use Rattle.weedle_namespaces.specs.declared.dictionary_definition.PartialDictionaryDefinition.{PartialDictionaryDefinition}
use Rattle.weedle_namespaces.specs.declared.namespace_definition.NamespaceDefinition.{NamespaceDefinition}
use Rattle.weedle_namespaces.specs.declared.namespace_definition.PartialNamespaceDefinition.{PartialNamespaceDefinition}
use Rattle.weedle_namespaces.specs.written.Trees.{dictionary_definition_tree, namespace_definition_tree, partial_dictionary_definition_tree, partial_namespace_definition_tree}
use Rattle.weedle_statements.specs.declared.callback.CallbackDefinition.{CallbackDefinition}
use Rattle.weedle_statements.specs.declared.enums.EnumDefinition.{EnumDefinition}
use Rattle.weedle_statements.specs.declared.statement.ImplementsDefinition.{ImplementsDefinition}
use Rattle.weedle_statements.specs.declared.statement.IncludesStatementDefinition.{IncludesStatementDefinition}
use Rattle.weedle_statements.specs.declared.typedef.TypedefDefinition.{TypedefDefinition}
use Rattle.weedle_statements.specs.written.Trees.{callback_definition_tree, enum_definition_tree, implements_definition_tree, includes_statement_definition_tree, typedef_definition_tree}
use Rattle.weedle_types.proofs.Direct.{direct_choice, fault_members, first_piece, got_members, members_first}
use Rattle.weedle_types.specs.Steps.{members}

-- `callback_or_interface`
abbrev callback_or_interface_parts : Reading (Choice CallbackDefinition (Choice CallbackInterfaceDefinition InterfaceDefinition))
callback_or_interface_parts = seen_reading choice_view (choice_reading (own CALLBACK_DEFINITION callback_definition_tree (Unit {0})) (seen_reading choice_view (choice_reading (own CALLBACK_INTERFACE_DEFINITION callback_interface_definition_tree (Unit {0})) (own INTERFACE_DEFINITION interface_definition_tree (Unit {0})))))

callback_or_interface_first : IsFirst callback_or_interface_parts callback_or_interface_rules 0 (λ x. choice_tree (λ v. Alt 0 (callback_definition_tree v)) (λ x. choice_tree (λ v. Alt 1 (callback_interface_definition_tree v)) (λ v. Alt 2 (interface_definition_tree v)) (choice_view x)) (choice_view x)) (Unit {0})
callback_or_interface_first = first_seen choice_view (first_more 0 (own_rule CALLBACK_DEFINITION callback_definition_tree (Unit {0})) (first_seen choice_view (first_more 1 (own_rule CALLBACK_INTERFACE_DEFINITION callback_interface_definition_tree (Unit {0})) (first_last 2 (own_rule INTERFACE_DEFINITION interface_definition_tree (Unit {0}))))))

pub callback_or_interface_got_0 : {s rest : List ℕ} {v : CallbackDefinition} → Got callback_or_interface_parts s (First v) rest → Got (members callback_or_interface_rules 0 definition_tree (Unit {0})) s (IsCallback v) rest
callback_or_interface_got_0 {v = v} h = got_members callback_or_interface_first definition_tree (IsCallback v) h refl

pub callback_or_interface_got_1 : {s rest : List ℕ} {v : CallbackInterfaceDefinition} → Got callback_or_interface_parts s (Second (First v)) rest → Got (members callback_or_interface_rules 0 definition_tree (Unit {0})) s (IsCallbackInterface v) rest
callback_or_interface_got_1 {v = v} h = got_members callback_or_interface_first definition_tree (IsCallbackInterface v) h refl

pub callback_or_interface_got_2 : {s rest : List ℕ} {v : InterfaceDefinition} → Got callback_or_interface_parts s (Second (Second v)) rest → Got (members callback_or_interface_rules 0 definition_tree (Unit {0})) s (IsInterface v) rest
callback_or_interface_got_2 {v = v} h = got_members callback_or_interface_first definition_tree (IsInterface v) h refl

pub callback_or_interface_fault : {s : List ℕ} {e : Fault (Error (Bor (List ℕ)))} → Faults callback_or_interface_parts s e → Faults (members callback_or_interface_rules 0 definition_tree (Unit {0})) s e
callback_or_interface_fault h = fault_members callback_or_interface_first definition_tree h

-- what the search for the proof of `callback_or_interface` uses
pub ruleset callback_or_interface_steps = (callback_or_interface_got_0, callback_or_interface_got_1, callback_or_interface_got_2, callback_or_interface_fault)

-- `main_definition`
abbrev main_definition_parts : Reading (Choice InterfaceMixinDefinition (Choice NamespaceDefinition DictionaryDefinition))
main_definition_parts = seen_reading choice_view (choice_reading (own INTERFACE_MIXIN_DEFINITION interface_mixin_definition_tree (Unit {0})) (seen_reading choice_view (choice_reading (own NAMESPACE_DEFINITION namespace_definition_tree (Unit {0})) (own DICTIONARY_DEFINITION dictionary_definition_tree (Unit {0})))))

main_definition_first : IsFirst main_definition_parts main_definition_rules 3 (λ x. choice_tree (λ v. Alt 3 (interface_mixin_definition_tree v)) (λ x. choice_tree (λ v. Alt 4 (namespace_definition_tree v)) (λ v. Alt 5 (dictionary_definition_tree v)) (choice_view x)) (choice_view x)) (Unit {0})
main_definition_first = first_seen choice_view (first_more 3 (own_rule INTERFACE_MIXIN_DEFINITION interface_mixin_definition_tree (Unit {0})) (first_seen choice_view (first_more 4 (own_rule NAMESPACE_DEFINITION namespace_definition_tree (Unit {0})) (first_last 5 (own_rule DICTIONARY_DEFINITION dictionary_definition_tree (Unit {0}))))))

pub main_definition_got_0 : {s rest : List ℕ} {v : InterfaceMixinDefinition} → Got main_definition_parts s (First v) rest → Got (members main_definition_rules 3 definition_tree (Unit {0})) s (IsInterfaceMixin v) rest
main_definition_got_0 {v = v} h = got_members main_definition_first definition_tree (IsInterfaceMixin v) h refl

pub main_definition_got_1 : {s rest : List ℕ} {v : NamespaceDefinition} → Got main_definition_parts s (Second (First v)) rest → Got (members main_definition_rules 3 definition_tree (Unit {0})) s (IsNamespace v) rest
main_definition_got_1 {v = v} h = got_members main_definition_first definition_tree (IsNamespace v) h refl

pub main_definition_got_2 : {s rest : List ℕ} {v : DictionaryDefinition} → Got main_definition_parts s (Second (Second v)) rest → Got (members main_definition_rules 3 definition_tree (Unit {0})) s (IsDictionary v) rest
main_definition_got_2 {v = v} h = got_members main_definition_first definition_tree (IsDictionary v) h refl

pub main_definition_fault : {s : List ℕ} {e : Fault (Error (Bor (List ℕ)))} → Faults main_definition_parts s e → Faults (members main_definition_rules 3 definition_tree (Unit {0})) s e
main_definition_fault h = fault_members main_definition_first definition_tree h

-- what the search for the proof of `main_definition` uses
pub ruleset main_definition_steps = (main_definition_got_0, main_definition_got_1, main_definition_got_2, main_definition_fault)

-- `partial_definition`
abbrev partial_definition_parts : Reading (Choice PartialInterfaceDefinition (Choice PartialInterfaceMixinDefinition (Choice PartialDictionaryDefinition PartialNamespaceDefinition)))
partial_definition_parts = seen_reading choice_view (choice_reading (own PARTIAL_INTERFACE_DEFINITION partial_interface_definition_tree (Unit {0})) (seen_reading choice_view (choice_reading (own PARTIAL_INTERFACE_MIXIN_DEFINITION partial_interface_mixin_definition_tree (Unit {0})) (seen_reading choice_view (choice_reading (own PARTIAL_DICTIONARY_DEFINITION partial_dictionary_definition_tree (Unit {0})) (own PARTIAL_NAMESPACE_DEFINITION partial_namespace_definition_tree (Unit {0})))))))

partial_definition_first : IsFirst partial_definition_parts partial_definition_rules 6 (λ x. choice_tree (λ v. Alt 6 (partial_interface_definition_tree v)) (λ x. choice_tree (λ v. Alt 7 (partial_interface_mixin_definition_tree v)) (λ x. choice_tree (λ v. Alt 8 (partial_dictionary_definition_tree v)) (λ v. Alt 9 (partial_namespace_definition_tree v)) (choice_view x)) (choice_view x)) (choice_view x)) (Unit {0})
partial_definition_first = first_seen choice_view (first_more 6 (own_rule PARTIAL_INTERFACE_DEFINITION partial_interface_definition_tree (Unit {0})) (first_seen choice_view (first_more 7 (own_rule PARTIAL_INTERFACE_MIXIN_DEFINITION partial_interface_mixin_definition_tree (Unit {0})) (first_seen choice_view (first_more 8 (own_rule PARTIAL_DICTIONARY_DEFINITION partial_dictionary_definition_tree (Unit {0})) (first_last 9 (own_rule PARTIAL_NAMESPACE_DEFINITION partial_namespace_definition_tree (Unit {0}))))))))

pub partial_definition_got_0 : {s rest : List ℕ} {v : PartialInterfaceDefinition} → Got partial_definition_parts s (First v) rest → Got (members partial_definition_rules 6 definition_tree (Unit {0})) s (IsPartialInterface v) rest
partial_definition_got_0 {v = v} h = got_members partial_definition_first definition_tree (IsPartialInterface v) h refl

pub partial_definition_got_1 : {s rest : List ℕ} {v : PartialInterfaceMixinDefinition} → Got partial_definition_parts s (Second (First v)) rest → Got (members partial_definition_rules 6 definition_tree (Unit {0})) s (IsPartialInterfaceMixin v) rest
partial_definition_got_1 {v = v} h = got_members partial_definition_first definition_tree (IsPartialInterfaceMixin v) h refl

pub partial_definition_got_2 : {s rest : List ℕ} {v : PartialDictionaryDefinition} → Got partial_definition_parts s (Second (Second (First v))) rest → Got (members partial_definition_rules 6 definition_tree (Unit {0})) s (IsPartialDictionary v) rest
partial_definition_got_2 {v = v} h = got_members partial_definition_first definition_tree (IsPartialDictionary v) h refl

pub partial_definition_got_3 : {s rest : List ℕ} {v : PartialNamespaceDefinition} → Got partial_definition_parts s (Second (Second (Second v))) rest → Got (members partial_definition_rules 6 definition_tree (Unit {0})) s (IsPartialNamespace v) rest
partial_definition_got_3 {v = v} h = got_members partial_definition_first definition_tree (IsPartialNamespace v) h refl

pub partial_definition_fault : {s : List ℕ} {e : Fault (Error (Bor (List ℕ)))} → Faults partial_definition_parts s e → Faults (members partial_definition_rules 6 definition_tree (Unit {0})) s e
partial_definition_fault h = fault_members partial_definition_first definition_tree h

-- what the search for the proof of `partial_definition` uses
pub ruleset partial_definition_steps = (partial_definition_got_0, partial_definition_got_1, partial_definition_got_2, partial_definition_got_3, partial_definition_fault)

-- `other_definition`
abbrev other_definition_parts : Reading (Choice EnumDefinition (Choice TypedefDefinition (Choice IncludesStatementDefinition ImplementsDefinition)))
other_definition_parts = seen_reading choice_view (choice_reading (own ENUM_DEFINITION enum_definition_tree (Unit {0})) (seen_reading choice_view (choice_reading (own TYPEDEF_DEFINITION typedef_definition_tree (Unit {0})) (seen_reading choice_view (choice_reading (own INCLUDES_STATEMENT_DEFINITION includes_statement_definition_tree (Unit {0})) (own IMPLEMENTS_DEFINITION implements_definition_tree (Unit {0})))))))

other_definition_first : IsFirst other_definition_parts other_definition_rules 10 (λ x. choice_tree (λ v. Alt 10 (enum_definition_tree v)) (λ x. choice_tree (λ v. Alt 11 (typedef_definition_tree v)) (λ x. choice_tree (λ v. Alt 12 (includes_statement_definition_tree v)) (λ v. Alt 13 (implements_definition_tree v)) (choice_view x)) (choice_view x)) (choice_view x)) (Unit {0})
other_definition_first = first_seen choice_view (first_more 10 (own_rule ENUM_DEFINITION enum_definition_tree (Unit {0})) (first_seen choice_view (first_more 11 (own_rule TYPEDEF_DEFINITION typedef_definition_tree (Unit {0})) (first_seen choice_view (first_more 12 (own_rule INCLUDES_STATEMENT_DEFINITION includes_statement_definition_tree (Unit {0})) (first_last 13 (own_rule IMPLEMENTS_DEFINITION implements_definition_tree (Unit {0}))))))))

pub other_definition_got_0 : {s rest : List ℕ} {v : EnumDefinition} → Got other_definition_parts s (First v) rest → Got (members other_definition_rules 10 definition_tree (Unit {0})) s (IsEnum v) rest
other_definition_got_0 {v = v} h = got_members other_definition_first definition_tree (IsEnum v) h refl

pub other_definition_got_1 : {s rest : List ℕ} {v : TypedefDefinition} → Got other_definition_parts s (Second (First v)) rest → Got (members other_definition_rules 10 definition_tree (Unit {0})) s (IsTypedef v) rest
other_definition_got_1 {v = v} h = got_members other_definition_first definition_tree (IsTypedef v) h refl

pub other_definition_got_2 : {s rest : List ℕ} {v : IncludesStatementDefinition} → Got other_definition_parts s (Second (Second (First v))) rest → Got (members other_definition_rules 10 definition_tree (Unit {0})) s (IsIncludesStatement v) rest
other_definition_got_2 {v = v} h = got_members other_definition_first definition_tree (IsIncludesStatement v) h refl

pub other_definition_got_3 : {s rest : List ℕ} {v : ImplementsDefinition} → Got other_definition_parts s (Second (Second (Second v))) rest → Got (members other_definition_rules 10 definition_tree (Unit {0})) s (IsImplements v) rest
other_definition_got_3 {v = v} h = got_members other_definition_first definition_tree (IsImplements v) h refl

pub other_definition_fault : {s : List ℕ} {e : Fault (Error (Bor (List ℕ)))} → Faults other_definition_parts s e → Faults (members other_definition_rules 10 definition_tree (Unit {0})) s e
other_definition_fault h = fault_members other_definition_first definition_tree h

-- what the search for the proof of `other_definition` uses
pub ruleset other_definition_steps = (other_definition_got_0, other_definition_got_1, other_definition_got_2, other_definition_got_3, other_definition_fault)

-- all of them
abbrev definition_parts : Reading (Definition ⊎ (Definition ⊎ (Definition ⊎ Definition)))
definition_parts = choice_reading (members callback_or_interface_rules 0 definition_tree (Unit {0})) (choice_reading (members main_definition_rules 3 definition_tree (Unit {0})) (choice_reading (members partial_definition_rules 6 definition_tree (Unit {0})) (members other_definition_rules 10 definition_tree (Unit {0}))))

definition_rule : IsRule definition_parts DEFINITION (choice_tree definition_tree (choice_tree definition_tree (choice_tree definition_tree definition_tree))) (Unit {0})
definition_rule = first_rule (first_piece 3 (members_first callback_or_interface_rules 0 definition_tree (Unit {0})) (first_piece 6 (members_first main_definition_rules 3 definition_tree (Unit {0})) (first_piece 10 (members_first partial_definition_rules 6 definition_tree (Unit {0})) (members_first other_definition_rules 10 definition_tree (Unit {0})) refl) refl) refl) DEFINITION refl refl

pub definition_got_0 : {s rest : List ℕ} {v : Definition} → Got definition_parts s (inl v) rest → Got (own DEFINITION definition_tree (Unit {0})) s v rest
definition_got_0 {v = v} h = got_rule definition_rule definition_tree v h refl

pub definition_got_1 : {s rest : List ℕ} {v : Definition} → Got definition_parts s (inr (inl v)) rest → Got (own DEFINITION definition_tree (Unit {0})) s v rest
definition_got_1 {v = v} h = got_rule definition_rule definition_tree v h refl

pub definition_got_2 : {s rest : List ℕ} {v : Definition} → Got definition_parts s (inr (inr (inl v))) rest → Got (own DEFINITION definition_tree (Unit {0})) s v rest
definition_got_2 {v = v} h = got_rule definition_rule definition_tree v h refl

pub definition_got_3 : {s rest : List ℕ} {v : Definition} → Got definition_parts s (inr (inr (inr v))) rest → Got (own DEFINITION definition_tree (Unit {0})) s v rest
definition_got_3 {v = v} h = got_rule definition_rule definition_tree v h refl

-- a fault of the parts is one of the rule
pub definition_fault : {s : List ℕ} {e : Fault (Error (Bor (List ℕ)))} → Faults definition_parts s e → Faults (own DEFINITION definition_tree (Unit {0})) s e
definition_fault h = fault_rule definition_rule definition_tree h

-- what the search for the proof of its `parse` uses
pub ruleset definition_steps = (direct_choice, definition_got_0, definition_got_1, definition_got_2, definition_got_3, definition_fault)

-- Members of namespaces. Written by tools/idl_proofs.py, and not edited by hand.
use Rattle.std.proofs.Common.{refl}
use Rattle.std.specs.Borrow.{Bor}
use Rattle.std.specs.Prelude.{ℕ, List, [], ◌∷◌, Option}
use Rattle.weedle_base.proofs.ChoiceFacts.{choice_tree, first_last, first_more, first_rule}
use Rattle.weedle_base.proofs.ChoiceSteps.{first_seen}
use Rattle.weedle_base.proofs.RuleFacts.{fault_rule, got_rule, mark, option_rule, own_rule, seq_last, seq_next, seq_rule, still_rule}
use Rattle.weedle_base.specs.Choices.{choice_view}
use Rattle.weedle_base.specs.Generic.{choice_reading, option_reading, pair_reading, seen_reading}
use Rattle.weedle_base.specs.Own.{own}
use Rattle.weedle_base.specs.Reading.{Faults, Got, Reading}
use Rattle.weedle_base.specs.Rules.{IsRule, option_tree}
use Rattle.weedle_base.specs.declared.choice.Choice.TheVariants.{First, Second}
use Rattle.weedle_base.specs.declared.choice.Choice.{Choice}
use Rattle.weedle_base.specs.declared.fault.Err.{Err as Fault}
use Rattle.weedle_base.specs.declared.fault.Error.{Error}
use Rattle.weedle_base.specs.declared.term.written.definition_keywords.Attribute.{Attribute}
use Rattle.weedle_base.specs.declared.term.written.definition_keywords.ReadOnly.{ReadOnly}
use Rattle.weedle_base.specs.declared.term.written.symbols.SemiColon.{SemiColon}
use Rattle.weedle_grammar.specs.Trees.{Alt, Mark, Node, trees}
use Rattle.weedle_grammar.specs.written.Table.InterfaceMembers.{OPT_DOCSTRING, OPT_IDENTIFIER}
use Rattle.weedle_grammar.specs.written.Table.Keywords.{ATTRIBUTE, READ_ONLY}
use Rattle.weedle_grammar.specs.written.Table.Leaves.{DOCSTRING, IDENTIFIER}
use Rattle.weedle_grammar.specs.written.Table.OtherMembers.{ATTRIBUTE_NAMESPACE_MEMBER, NAMESPACE_MEMBER, OPERATION_NAMESPACE_MEMBER}
use Rattle.weedle_grammar.specs.written.Table.Symbols.{SEMI_COLON}
use Rattle.weedle_grammar.specs.written.Table.Types.{ATTRIBUTED_TYPE, PARENTHESIZED_ARGUMENT_LIST, RETURN_TYPE}
use Rattle.weedle_namespaces.specs.declared.namespace.AttributeNamespaceMember.{AttributeNamespaceMember}
use Rattle.weedle_namespaces.specs.declared.namespace.NamespaceMember.TheVariants.{Operation as IsOperation, Attribute as IsAttribute}
use Rattle.weedle_namespaces.specs.declared.namespace.NamespaceMember.{NamespaceMember}
use Rattle.weedle_namespaces.specs.declared.namespace.OperationNamespaceMember.{OperationNamespaceMember}
use Rattle.weedle_namespaces.specs.written.Trees.{attribute_namespace_member_tree, namespace_member_tree, operation_namespace_member_tree}
use Rattle.weedle_parts.specs.ValueTrees.{docstring_tree, identifier_tree}
use Rattle.weedle_parts.specs.declared.common.docstring.Docstring.{Docstring}
use Rattle.weedle_parts.specs.declared.common.identifier.Identifier.{Identifier}
use Rattle.weedle_types.proofs.SharedRules.{attributes_reading, attributes_rule, perhaps, word}
use Rattle.weedle_types.specs.PartTrees.{Attributes}
use Rattle.weedle_types.specs.Trees.{arguments_tree, attributed_type_tree, attributes_tree, return_type_tree}
use Rattle.weedle_types.specs.declared.argument.ParenthesizedArgumentList.{ParenthesizedArgumentList}
use Rattle.weedle_types.specs.declared.formers.ReturnType.{ReturnType}
use Rattle.weedle_types.specs.declared.types.AttributedType.{AttributedType}
use Rattle.weedle_types.specs.declared.types.«Type».{«Type»}

-- an operation
abbrev operation_namespace_member_parts : Reading ((Option Docstring) × (Attributes × ((ReturnType «Type») × ((Option Identifier) × (ParenthesizedArgumentList × SemiColon)))))
operation_namespace_member_parts = pair_reading (option_reading (own DOCSTRING docstring_tree (Unit {0}))) (pair_reading attributes_reading (pair_reading (own RETURN_TYPE return_type_tree (Unit {0})) (pair_reading (option_reading (own IDENTIFIER identifier_tree ⊥)) (pair_reading (own PARENTHESIZED_ARGUMENT_LIST arguments_tree (Unit {0})) (mark SEMI_COLON)))))

operation_namespace_member_rule : IsRule operation_namespace_member_parts OPERATION_NAMESPACE_MEMBER (λ x. Node (trees (option_tree docstring_tree x.0 ∷ attributes_tree x.1.0 ∷ return_type_tree x.1.1.0 ∷ option_tree identifier_tree x.1.1.1.0 ∷ arguments_tree x.1.1.1.1.0 ∷ Mark ∷ []))) (Unit {0})
operation_namespace_member_rule = seq_rule (seq_next (option_rule (own_rule DOCSTRING docstring_tree (Unit {0})) OPT_DOCSTRING refl refl) (seq_next attributes_rule (seq_next (own_rule RETURN_TYPE return_type_tree (Unit {0})) (seq_next (perhaps (own_rule IDENTIFIER identifier_tree ⊥) OPT_IDENTIFIER refl refl) (seq_next (own_rule PARENTHESIZED_ARGUMENT_LIST arguments_tree (Unit {0})) (seq_last (word SEMI_COLON))))))) OPERATION_NAMESPACE_MEMBER refl refl

-- the parts give what the rule gives
pub operation_namespace_member_got : {s rest : List ℕ} (x : OperationNamespaceMember) → Got operation_namespace_member_parts s (x.docstring, (x.attributes, (x.return_type, (x.identifier, (x.args, x.semi_colon))))) rest → Got (own OPERATION_NAMESPACE_MEMBER operation_namespace_member_tree (Unit {0})) s x rest
operation_namespace_member_got x h = got_rule operation_namespace_member_rule operation_namespace_member_tree x h refl

-- a fault of the parts is one of the rule
pub operation_namespace_member_fault : {s : List ℕ} {e : Fault (Error (Bor (List ℕ)))} → Faults operation_namespace_member_parts s e → Faults (own OPERATION_NAMESPACE_MEMBER operation_namespace_member_tree (Unit {0})) s e
operation_namespace_member_fault h = fault_rule operation_namespace_member_rule operation_namespace_member_tree h

-- an attribute
abbrev attribute_namespace_member_parts : Reading ((Option Docstring) × (Attributes × (ReadOnly × (Attribute × (AttributedType × (Identifier × SemiColon))))))
attribute_namespace_member_parts = pair_reading (option_reading (own DOCSTRING docstring_tree (Unit {0}))) (pair_reading attributes_reading (pair_reading (mark READ_ONLY) (pair_reading (mark ATTRIBUTE) (pair_reading (own ATTRIBUTED_TYPE attributed_type_tree (Unit {0})) (pair_reading (own IDENTIFIER identifier_tree ⊥) (mark SEMI_COLON))))))

attribute_namespace_member_rule : IsRule attribute_namespace_member_parts ATTRIBUTE_NAMESPACE_MEMBER (λ x. Node (trees (option_tree docstring_tree x.0 ∷ attributes_tree x.1.0 ∷ Mark ∷ Mark ∷ attributed_type_tree x.1.1.1.1.0 ∷ identifier_tree x.1.1.1.1.1.0 ∷ Mark ∷ []))) (Unit {0})
attribute_namespace_member_rule = seq_rule (seq_next (option_rule (own_rule DOCSTRING docstring_tree (Unit {0})) OPT_DOCSTRING refl refl) (seq_next attributes_rule (seq_next (word READ_ONLY) (seq_next (word ATTRIBUTE) (seq_next (own_rule ATTRIBUTED_TYPE attributed_type_tree (Unit {0})) (seq_next (still_rule (own_rule IDENTIFIER identifier_tree ⊥)) (seq_last (word SEMI_COLON)))))))) ATTRIBUTE_NAMESPACE_MEMBER refl refl

-- the parts give what the rule gives
pub attribute_namespace_member_got : {s rest : List ℕ} (x : AttributeNamespaceMember) → Got attribute_namespace_member_parts s (x.docstring, (x.attributes, (x.readonly, (x.attribute, (x.type_, (x.identifier, x.semi_colon)))))) rest → Got (own ATTRIBUTE_NAMESPACE_MEMBER attribute_namespace_member_tree (Unit {0})) s x rest
attribute_namespace_member_got x h = got_rule attribute_namespace_member_rule attribute_namespace_member_tree x h refl

-- a fault of the parts is one of the rule
pub attribute_namespace_member_fault : {s : List ℕ} {e : Fault (Error (Bor (List ℕ)))} → Faults attribute_namespace_member_parts s e → Faults (own ATTRIBUTE_NAMESPACE_MEMBER attribute_namespace_member_tree (Unit {0})) s e
attribute_namespace_member_fault h = fault_rule attribute_namespace_member_rule attribute_namespace_member_tree h

-- either
abbrev namespace_member_parts : Reading (Choice OperationNamespaceMember AttributeNamespaceMember)
namespace_member_parts = seen_reading choice_view (choice_reading (own OPERATION_NAMESPACE_MEMBER operation_namespace_member_tree (Unit {0})) (own ATTRIBUTE_NAMESPACE_MEMBER attribute_namespace_member_tree (Unit {0})))

-- which of the alternatives a value is
abbrev namespace_member_view : NamespaceMember → Choice OperationNamespaceMember AttributeNamespaceMember
namespace_member_view (IsOperation v) = First v
namespace_member_view (IsAttribute v) = Second v

namespace_member_rule : IsRule namespace_member_parts NAMESPACE_MEMBER (λ x. choice_tree (λ v. Alt 0 (operation_namespace_member_tree v)) (λ v. Alt 1 (attribute_namespace_member_tree v)) (choice_view x)) (Unit {0})
namespace_member_rule = first_rule (first_seen choice_view (first_more 0 (own_rule OPERATION_NAMESPACE_MEMBER operation_namespace_member_tree (Unit {0})) (first_last 1 (own_rule ATTRIBUTE_NAMESPACE_MEMBER attribute_namespace_member_tree (Unit {0}))))) NAMESPACE_MEMBER refl refl

-- the parts give what the rule gives
pub namespace_member_got : {s rest : List ℕ} (x : NamespaceMember) → Got namespace_member_parts s (namespace_member_view x) rest → Got (own NAMESPACE_MEMBER namespace_member_tree (Unit {0})) s x rest
namespace_member_got (IsOperation v) h = got_rule namespace_member_rule namespace_member_tree _ h refl
namespace_member_got (IsAttribute v) h = got_rule namespace_member_rule namespace_member_tree _ h refl

-- a fault of the parts is one of the rule
pub namespace_member_fault : {s : List ℕ} {e : Fault (Error (Bor (List ℕ)))} → Faults namespace_member_parts s e → Faults (own NAMESPACE_MEMBER namespace_member_tree (Unit {0})) s e
namespace_member_fault h = fault_rule namespace_member_rule namespace_member_tree h

-- what the search for the proof of its `parse` uses
pub ruleset operation_namespace_member_steps = (operation_namespace_member_got, operation_namespace_member_fault)

-- what the search for the proof of its `parse` uses
pub ruleset attribute_namespace_member_steps = (attribute_namespace_member_got, attribute_namespace_member_fault)

-- what the search for the proof of its `parse` uses
pub ruleset namespace_member_steps = (namespace_member_got, namespace_member_fault)

-- Namespaces. Written by tools/idl_proofs.py, and not edited by hand.
use Rattle.std.proofs.Common.{refl}
use Rattle.std.specs.Borrow.{Bor}
use Rattle.std.specs.Global.{Vec}
use Rattle.std.specs.Prelude.{ℕ, List, [], ◌∷◌, Option}
use Rattle.weedle_base.proofs.RuleFacts.{fault_rule, got_rule, mark, option_rule, own_rule, seq_last, seq_next, seq_rule, still_rule}
use Rattle.weedle_base.specs.Generic.{option_reading, pair_reading}
use Rattle.weedle_base.specs.Own.{own}
use Rattle.weedle_base.specs.Reading.{Faults, Got, Reading}
use Rattle.weedle_base.specs.Rules.{IsRule, option_tree}
use Rattle.weedle_base.specs.declared.fault.Err.{Err as Fault}
use Rattle.weedle_base.specs.declared.fault.Error.{Error}
use Rattle.weedle_base.specs.declared.term.written.definition_keywords.Namespace.{Namespace}
use Rattle.weedle_base.specs.declared.term.written.definition_keywords.Partial.{Partial}
use Rattle.weedle_base.specs.declared.term.written.symbols.SemiColon.{SemiColon}
use Rattle.weedle_grammar.specs.Trees.{Mark, Node, trees}
use Rattle.weedle_grammar.specs.written.Table.Definitions.{NAMESPACE_DEFINITION, PARTIAL_NAMESPACE_DEFINITION}
use Rattle.weedle_grammar.specs.written.Table.InterfaceMembers.{OPT_DOCSTRING}
use Rattle.weedle_grammar.specs.written.Table.Keywords.{NAMESPACE, PARTIAL}
use Rattle.weedle_grammar.specs.written.Table.Leaves.{DOCSTRING, IDENTIFIER}
use Rattle.weedle_grammar.specs.written.Table.OtherMembers.{BRACED_NAMESPACE_MEMBERS, NAMESPACE_MEMBER, NAMESPACE_MEMBERS}
use Rattle.weedle_grammar.specs.written.Table.Symbols.{SEMI_COLON}
use Rattle.weedle_namespaces.specs.declared.namespace.NamespaceMember.{NamespaceMember}
use Rattle.weedle_namespaces.specs.declared.namespace_definition.NamespaceDefinition.{NamespaceDefinition}
use Rattle.weedle_namespaces.specs.declared.namespace_definition.PartialNamespaceDefinition.{PartialNamespaceDefinition}
use Rattle.weedle_namespaces.specs.written.Trees.{namespace_definition_tree, namespace_member_tree, partial_namespace_definition_tree}
use Rattle.weedle_parts.proofs.PartRules.{braced_rule}
use Rattle.weedle_parts.specs.Brackets.{braced_reading}
use Rattle.weedle_parts.specs.ValueTrees.{braced_tree, docstring_tree, identifier_tree}
use Rattle.weedle_parts.specs.declared.common.brackets.Braced.{Braced}
use Rattle.weedle_parts.specs.declared.common.docstring.Docstring.{Docstring}
use Rattle.weedle_parts.specs.declared.common.identifier.Identifier.{Identifier}
use Rattle.weedle_types.proofs.SharedRules.{attributes_reading, attributes_rule, members_reading, members_rule, word}
use Rattle.weedle_types.specs.PartTrees.{Attributes, members_tree}
use Rattle.weedle_types.specs.Steps.{members}
use Rattle.weedle_types.specs.Trees.{attributes_tree}

-- a namespace
abbrev namespace_definition_parts : Reading ((Option Docstring) × (Attributes × (Namespace × (Identifier × ((Braced (Vec NamespaceMember)) × SemiColon)))))
namespace_definition_parts = pair_reading (option_reading (own DOCSTRING docstring_tree (Unit {0}))) (pair_reading attributes_reading (pair_reading (mark NAMESPACE) (pair_reading (own IDENTIFIER identifier_tree ⊥) (pair_reading (braced_reading (members_reading (own NAMESPACE_MEMBER namespace_member_tree (Unit {0})))) (mark SEMI_COLON)))))

namespace_definition_rule : IsRule namespace_definition_parts NAMESPACE_DEFINITION (λ x. Node (trees (option_tree docstring_tree x.0 ∷ attributes_tree x.1.0 ∷ Mark ∷ identifier_tree x.1.1.1.0 ∷ braced_tree (members_tree namespace_member_tree) x.1.1.1.1.0 ∷ Mark ∷ []))) (Unit {0})
namespace_definition_rule = seq_rule (seq_next (option_rule (own_rule DOCSTRING docstring_tree (Unit {0})) OPT_DOCSTRING refl refl) (seq_next attributes_rule (seq_next (word NAMESPACE) (seq_next (still_rule (own_rule IDENTIFIER identifier_tree ⊥)) (seq_next (braced_rule (members_rule (own_rule NAMESPACE_MEMBER namespace_member_tree (Unit {0})) NAMESPACE_MEMBERS refl refl) BRACED_NAMESPACE_MEMBERS refl refl) (seq_last (word SEMI_COLON))))))) NAMESPACE_DEFINITION refl refl

-- the parts give what the rule gives
pub namespace_definition_got : {s rest : List ℕ} (x : NamespaceDefinition) → Got namespace_definition_parts s (x.docstring, (x.attributes, (x.namespace, (x.identifier, (x.members, x.semi_colon))))) rest → Got (own NAMESPACE_DEFINITION namespace_definition_tree (Unit {0})) s x rest
namespace_definition_got x h = got_rule namespace_definition_rule namespace_definition_tree x h refl

-- a fault of the parts is one of the rule
pub namespace_definition_fault : {s : List ℕ} {e : Fault (Error (Bor (List ℕ)))} → Faults namespace_definition_parts s e → Faults (own NAMESPACE_DEFINITION namespace_definition_tree (Unit {0})) s e
namespace_definition_fault h = fault_rule namespace_definition_rule namespace_definition_tree h

-- a part of a namespace
abbrev partial_namespace_definition_parts : Reading (Attributes × (Partial × (Namespace × (Identifier × ((Braced (Vec NamespaceMember)) × SemiColon)))))
partial_namespace_definition_parts = pair_reading attributes_reading (pair_reading (mark PARTIAL) (pair_reading (mark NAMESPACE) (pair_reading (own IDENTIFIER identifier_tree ⊥) (pair_reading (braced_reading (members_reading (own NAMESPACE_MEMBER namespace_member_tree (Unit {0})))) (mark SEMI_COLON)))))

partial_namespace_definition_rule : IsRule partial_namespace_definition_parts PARTIAL_NAMESPACE_DEFINITION (λ x. Node (trees (attributes_tree x.0 ∷ Mark ∷ Mark ∷ identifier_tree x.1.1.1.0 ∷ braced_tree (members_tree namespace_member_tree) x.1.1.1.1.0 ∷ Mark ∷ []))) (Unit {0})
partial_namespace_definition_rule = seq_rule (seq_next attributes_rule (seq_next (word PARTIAL) (seq_next (word NAMESPACE) (seq_next (still_rule (own_rule IDENTIFIER identifier_tree ⊥)) (seq_next (braced_rule (members_rule (own_rule NAMESPACE_MEMBER namespace_member_tree (Unit {0})) NAMESPACE_MEMBERS refl refl) BRACED_NAMESPACE_MEMBERS refl refl) (seq_last (word SEMI_COLON))))))) PARTIAL_NAMESPACE_DEFINITION refl refl

-- the parts give what the rule gives
pub partial_namespace_definition_got : {s rest : List ℕ} (x : PartialNamespaceDefinition) → Got partial_namespace_definition_parts s (x.attributes, (x.partial, (x.namespace, (x.identifier, (x.members, x.semi_colon))))) rest → Got (own PARTIAL_NAMESPACE_DEFINITION partial_namespace_definition_tree (Unit {0})) s x rest
partial_namespace_definition_got x h = got_rule partial_namespace_definition_rule partial_namespace_definition_tree x h refl

-- a fault of the parts is one of the rule
pub partial_namespace_definition_fault : {s : List ℕ} {e : Fault (Error (Bor (List ℕ)))} → Faults partial_namespace_definition_parts s e → Faults (own PARTIAL_NAMESPACE_DEFINITION partial_namespace_definition_tree (Unit {0})) s e
partial_namespace_definition_fault h = fault_rule partial_namespace_definition_rule partial_namespace_definition_tree h

-- what the search for the proof of its `parse` uses
pub ruleset namespace_definition_steps = (namespace_definition_got, namespace_definition_fault)

-- what the search for the proof of its `parse` uses
pub ruleset partial_namespace_definition_steps = (partial_namespace_definition_got, partial_namespace_definition_fault)

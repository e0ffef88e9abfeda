-- The attributes of interfaces. Written by tools/idl_proofs.py, and not edited by hand.
use Rattle.std.proofs.Common.{refl}
use Rattle.std.specs.Borrow.{Bor}
use Rattle.std.specs.Prelude.{ℕ, List, [], ◌∷◌, Option}
use Rattle.weedle_base.proofs.RuleFacts.{fault_rule, got_rule, mark, mark_rule, own_rule, seq_last, seq_next, seq_rule, still_rule}
use Rattle.weedle_base.specs.Generic.{option_reading, pair_reading}
use Rattle.weedle_base.specs.Own.{own}
use Rattle.weedle_base.specs.Reading.{Faults, Got, Reading}
use Rattle.weedle_base.specs.Rules.{IsRule, mark_tree, option_tree}
use Rattle.weedle_base.specs.declared.fault.Err.{Err as Fault}
use Rattle.weedle_base.specs.declared.fault.Error.{Error}
use Rattle.weedle_base.specs.declared.term.written.definition_keywords.Attribute.{Attribute}
use Rattle.weedle_base.specs.declared.term.written.definition_keywords.ReadOnly.{ReadOnly}
use Rattle.weedle_base.specs.declared.term.written.symbols.SemiColon.{SemiColon}
use Rattle.weedle_grammar.specs.Trees.{Mark, Node, trees}
use Rattle.weedle_grammar.specs.written.Table.InterfaceMembers.{ATTRIBUTE_INTERFACE_MEMBER, OPT_READ_ONLY, OPT_STRINGIFIER_OR_INHERIT_OR_STATIC, STRINGIFIER_OR_INHERIT_OR_STATIC}
use Rattle.weedle_grammar.specs.written.Table.Keywords.{ATTRIBUTE, READ_ONLY}
use Rattle.weedle_grammar.specs.written.Table.Leaves.{IDENTIFIER}
use Rattle.weedle_grammar.specs.written.Table.Symbols.{SEMI_COLON}
use Rattle.weedle_grammar.specs.written.Table.Types.{ATTRIBUTED_TYPE}
use Rattle.weedle_members.specs.declared.attribute.AttributeInterfaceMember.{AttributeInterfaceMember}
use Rattle.weedle_members.specs.written.Trees.{attribute_interface_member_tree}
use Rattle.weedle_parts.specs.ModifierTrees.{stringifier_or_inherit_or_static_tree}
use Rattle.weedle_parts.specs.ValueTrees.{identifier_tree}
use Rattle.weedle_parts.specs.declared.common.identifier.Identifier.{Identifier}
use Rattle.weedle_parts.specs.declared.modifier.StringifierOrInheritOrStatic.{StringifierOrInheritOrStatic}
use Rattle.weedle_types.proofs.SharedRules.{attributes_reading, attributes_rule, perhaps, word}
use Rattle.weedle_types.specs.PartTrees.{Attributes}
use Rattle.weedle_types.specs.Trees.{attributed_type_tree, attributes_tree}
use Rattle.weedle_types.specs.declared.types.AttributedType.{AttributedType}

-- an attribute
abbrev attribute_interface_member_parts : Reading (Attributes × ((Option StringifierOrInheritOrStatic) × ((Option ReadOnly) × (Attribute × (AttributedType × (Identifier × SemiColon))))))
attribute_interface_member_parts = pair_reading attributes_reading (pair_reading (option_reading (own STRINGIFIER_OR_INHERIT_OR_STATIC stringifier_or_inherit_or_static_tree ⊥)) (pair_reading (option_reading (mark READ_ONLY)) (pair_reading (mark ATTRIBUTE) (pair_reading (own ATTRIBUTED_TYPE attributed_type_tree (Unit {0})) (pair_reading (own IDENTIFIER identifier_tree ⊥) (mark SEMI_COLON))))))

attribute_interface_member_rule : IsRule attribute_interface_member_parts ATTRIBUTE_INTERFACE_MEMBER (λ x. Node (trees (attributes_tree x.0 ∷ option_tree stringifier_or_inherit_or_static_tree x.1.0 ∷ option_tree mark_tree x.1.1.0 ∷ Mark ∷ attributed_type_tree x.1.1.1.1.0 ∷ identifier_tree x.1.1.1.1.1.0 ∷ Mark ∷ []))) (Unit {0})
attribute_interface_member_rule = seq_rule (seq_next attributes_rule (seq_next (perhaps (own_rule STRINGIFIER_OR_INHERIT_OR_STATIC stringifier_or_inherit_or_static_tree ⊥) OPT_STRINGIFIER_OR_INHERIT_OR_STATIC refl refl) (seq_next (perhaps (mark_rule READ_ONLY) OPT_READ_ONLY refl refl) (seq_next (word ATTRIBUTE) (seq_next (own_rule ATTRIBUTED_TYPE attributed_type_tree (Unit {0})) (seq_next (still_rule (own_rule IDENTIFIER identifier_tree ⊥)) (seq_last (word SEMI_COLON)))))))) ATTRIBUTE_INTERFACE_MEMBER refl refl

-- the parts give what the rule gives
pub attribute_interface_member_got : {s rest : List ℕ} (x : AttributeInterfaceMember) → Got attribute_interface_member_parts s (x.attributes, (x.modifier, (x.readonly, (x.attribute, (x.type_, (x.identifier, x.semi_colon)))))) rest → Got (own ATTRIBUTE_INTERFACE_MEMBER attribute_interface_member_tree (Unit {0})) s x rest
attribute_interface_member_got x h = got_rule attribute_interface_member_rule attribute_interface_member_tree x h refl

-- a fault of the parts is one of the rule
pub attribute_interface_member_fault : {s : List ℕ} {e : Fault (Error (Bor (List ℕ)))} → Faults attribute_interface_member_parts s e → Faults (own ATTRIBUTE_INTERFACE_MEMBER attribute_interface_member_tree (Unit {0})) s e
attribute_interface_member_fault h = fault_rule attribute_interface_member_rule attribute_interface_member_tree h

-- what the search for the proof of its `parse` uses
pub ruleset attribute_interface_member_steps = (attribute_interface_member_got, attribute_interface_member_fault)

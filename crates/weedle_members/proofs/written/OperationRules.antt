-- The constructors and operations of interfaces. Written by tools/idl_proofs.py, and not edited by hand.
use Rattle.std.proofs.Common.{refl}
use Rattle.std.specs.Borrow.{Bor}
use Rattle.std.specs.Prelude.{ℕ, List, [], ◌∷◌, Option}
use Rattle.weedle_base.proofs.RuleFacts.{fault_rule, got_rule, mark, option_rule, own_rule, seq_last, seq_next, seq_rule}
use Rattle.weedle_base.proofs.Steps.{part_steps}
use Rattle.weedle_base.specs.Generic.{option_reading, pair_reading}
use Rattle.weedle_base.specs.Own.{own}
use Rattle.weedle_base.specs.Reading.{Faults, Got, Reading}
use Rattle.weedle_base.specs.Rules.{IsRule, option_tree}
use Rattle.weedle_base.specs.declared.fault.Err.{Err as Fault}
use Rattle.weedle_base.specs.declared.fault.Error.{Error}
use Rattle.weedle_base.specs.declared.term.written.definition_keywords.Constructor.{Constructor}
use Rattle.weedle_base.specs.declared.term.written.symbols.SemiColon.{SemiColon}
use Rattle.weedle_grammar.specs.Trees.{Mark, Node, trees}
use Rattle.weedle_grammar.specs.written.Table.InterfaceMembers.{CONSTRUCTOR_INTERFACE_MEMBER, OPERATION_INTERFACE_MEMBER, OPT_DOCSTRING, OPT_IDENTIFIER, OPT_SPECIAL, OPT_STRINGIFIER_OR_STATIC, SPECIAL, STRINGIFIER_OR_STATIC}
use Rattle.weedle_grammar.specs.written.Table.Keywords.{CONSTRUCTOR}
use Rattle.weedle_grammar.specs.written.Table.Leaves.{DOCSTRING, IDENTIFIER}
use Rattle.weedle_grammar.specs.written.Table.Symbols.{SEMI_COLON}
use Rattle.weedle_grammar.specs.written.Table.Types.{PARENTHESIZED_ARGUMENT_LIST, RETURN_TYPE}
use Rattle.weedle_members.specs.declared.operation.ConstructorInterfaceMember.{ConstructorInterfaceMember}
use Rattle.weedle_members.specs.declared.operation.OperationInterfaceMember.{OperationInterfaceMember}
use Rattle.weedle_members.specs.written.Trees.{constructor_interface_member_tree, operation_interface_member_tree}
use Rattle.weedle_parts.specs.ModifierTrees.{special_tree, stringifier_or_static_tree}
use Rattle.weedle_parts.specs.ValueTrees.{docstring_tree, identifier_tree}
use Rattle.weedle_parts.specs.declared.common.docstring.Docstring.{Docstring}
use Rattle.weedle_parts.specs.declared.common.identifier.Identifier.{Identifier}
use Rattle.weedle_parts.specs.declared.modifier.Special.{Special}
use Rattle.weedle_parts.specs.declared.modifier.StringifierOrStatic.{StringifierOrStatic}
use Rattle.weedle_types.proofs.SharedRules.{attributes_reading, attributes_rule, perhaps, word}
use Rattle.weedle_types.specs.PartTrees.{Attributes}
use Rattle.weedle_types.specs.Trees.{arguments_tree, attributes_tree, return_type_tree}
use Rattle.weedle_types.specs.declared.argument.ParenthesizedArgumentList.{ParenthesizedArgumentList}
use Rattle.weedle_types.specs.declared.formers.ReturnType.{ReturnType}
use Rattle.weedle_types.specs.declared.types.«Type».{«Type»}

-- a constructor
abbrev constructor_interface_member_parts : Reading ((Option Docstring) × (Attributes × (Constructor × (ParenthesizedArgumentList × SemiColon))))
constructor_interface_member_parts = pair_reading (option_reading (own DOCSTRING docstring_tree (Unit {0}))) (pair_reading attributes_reading (pair_reading (mark CONSTRUCTOR) (pair_reading (own PARENTHESIZED_ARGUMENT_LIST arguments_tree (Unit {0})) (mark SEMI_COLON))))

constructor_interface_member_rule : IsRule constructor_interface_member_parts CONSTRUCTOR_INTERFACE_MEMBER (λ x. Node (trees (option_tree docstring_tree x.0 ∷ attributes_tree x.1.0 ∷ Mark ∷ arguments_tree x.1.1.1.0 ∷ Mark ∷ []))) (Unit {0})
constructor_interface_member_rule = seq_rule (seq_next (option_rule (own_rule DOCSTRING docstring_tree (Unit {0})) OPT_DOCSTRING refl refl) (seq_next attributes_rule (seq_next (word CONSTRUCTOR) (seq_next (own_rule PARENTHESIZED_ARGUMENT_LIST arguments_tree (Unit {0})) (seq_last (word SEMI_COLON)))))) CONSTRUCTOR_INTERFACE_MEMBER refl refl

-- the parts give what the rule gives
pub constructor_interface_member_got : {s rest : List ℕ} (x : ConstructorInterfaceMember) → Got constructor_interface_member_parts s (x.docstring, (x.attributes, (x.constructor, (x.args, x.semi_colon)))) rest → Got (own CONSTRUCTOR_INTERFACE_MEMBER constructor_interface_member_tree (Unit {0})) s x rest
constructor_interface_member_got x h = got_rule constructor_interface_member_rule constructor_interface_member_tree x h refl

-- a fault of the parts is one of the rule
pub constructor_interface_member_fault : {s : List ℕ} {e : Fault (Error (Bor (List ℕ)))} → Faults constructor_interface_member_parts s e → Faults (own CONSTRUCTOR_INTERFACE_MEMBER constructor_interface_member_tree (Unit {0})) s e
constructor_interface_member_fault h = fault_rule constructor_interface_member_rule constructor_interface_member_tree h

-- an operation
abbrev operation_interface_member_parts : Reading ((Option Docstring) × (Attributes × ((Option StringifierOrStatic) × ((Option Special) × ((ReturnType «Type») × ((Option Identifier) × (ParenthesizedArgumentList × SemiColon)))))))
operation_interface_member_parts = pair_reading (option_reading (own DOCSTRING docstring_tree (Unit {0}))) (pair_reading attributes_reading (pair_reading (option_reading (own STRINGIFIER_OR_STATIC stringifier_or_static_tree ⊥)) (pair_reading (option_reading (own SPECIAL special_tree ⊥)) (pair_reading (own RETURN_TYPE return_type_tree (Unit {0})) (pair_reading (option_reading (own IDENTIFIER identifier_tree ⊥)) (pair_reading (own PARENTHESIZED_ARGUMENT_LIST arguments_tree (Unit {0})) (mark SEMI_COLON)))))))

operation_interface_member_rule : IsRule operation_interface_member_parts OPERATION_INTERFACE_MEMBER (λ x. Node (trees (option_tree docstring_tree x.0 ∷ attributes_tree x.1.0 ∷ option_tree stringifier_or_static_tree x.1.1.0 ∷ option_tree special_tree x.1.1.1.0 ∷ return_type_tree x.1.1.1.1.0 ∷ option_tree identifier_tree x.1.1.1.1.1.0 ∷ arguments_tree x.1.1.1.1.1.1.0 ∷ Mark ∷ []))) (Unit {0})
operation_interface_member_rule = seq_rule (seq_next (option_rule (own_rule DOCSTRING docstring_tree (Unit {0})) OPT_DOCSTRING refl refl) (seq_next attributes_rule (seq_next (perhaps (own_rule STRINGIFIER_OR_STATIC stringifier_or_static_tree ⊥) OPT_STRINGIFIER_OR_STATIC refl refl) (seq_next (perhaps (own_rule SPECIAL special_tree ⊥) OPT_SPECIAL refl refl) (seq_next (own_rule RETURN_TYPE return_type_tree (Unit {0})) (seq_next (perhaps (own_rule IDENTIFIER identifier_tree ⊥) OPT_IDENTIFIER refl refl) (seq_next (own_rule PARENTHESIZED_ARGUMENT_LIST arguments_tree (Unit {0})) (seq_last (word SEMI_COLON))))))))) OPERATION_INTERFACE_MEMBER refl refl

-- the parts give what the rule gives
pub operation_interface_member_got : {s rest : List ℕ} (x : OperationInterfaceMember) → Got operation_interface_member_parts s (x.docstring, (x.attributes, (x.modifier, (x.special, (x.return_type, (x.identifier, (x.args, x.semi_colon))))))) rest → Got (own OPERATION_INTERFACE_MEMBER operation_interface_member_tree (Unit {0})) s x rest
operation_interface_member_got x h = got_rule operation_interface_member_rule operation_interface_member_tree x h refl

-- a fault of the parts is one of the rule
pub operation_interface_member_fault : {s : List ℕ} {e : Fault (Error (Bor (List ℕ)))} → Faults operation_interface_member_parts s e → Faults (own OPERATION_INTERFACE_MEMBER operation_interface_member_tree (Unit {0})) s e
operation_interface_member_fault h = fault_rule operation_interface_member_rule operation_interface_member_tree h

-- what the search for the proof of its `parse` uses
pub ruleset constructor_interface_member_steps = (part_steps, constructor_interface_member_got, constructor_interface_member_fault)

-- what the search for the proof of its `parse` uses
pub ruleset operation_interface_member_steps = (operation_interface_member_got, operation_interface_member_fault)

-- Interfaces. Written by tools/idl_proofs.py, and not edited by hand.
use Rattle.std.proofs.Common.{refl}
use Rattle.std.specs.Borrow.{Bor}
use Rattle.std.specs.Global.{Vec}
use Rattle.std.specs.Prelude.{ℕ, List, [], ◌∷◌, Option}
use Rattle.weedle_base.proofs.RuleFacts.{fault_rule, got_rule, mark, option_rule, own_rule, seq_last, seq_next, seq_rule, still_rule}
use Rattle.weedle_base.specs.Generic.{option_reading, pair_reading}
use Rattle.weedle_base.specs.Own.{own}
use Rattle.weedle_base.specs.Reading.{Faults, Got, Reading}
use Rattle.weedle_base.specs.Rules.{IsRule, option_tree}
use Rattle.weedle_base.specs.declared.fault.Err.{Err as Fault}
use Rattle.weedle_base.specs.declared.fault.Error.{Error}
use Rattle.weedle_base.specs.declared.term.written.definition_keywords.Callback.{Callback}
use Rattle.weedle_base.specs.declared.term.written.definition_keywords.Interface.{Interface}
use Rattle.weedle_base.specs.declared.term.written.definition_keywords.Partial.{Partial}
use Rattle.weedle_base.specs.declared.term.written.symbols.SemiColon.{SemiColon}
use Rattle.weedle_grammar.specs.Trees.{Mark, Node, trees}
use Rattle.weedle_grammar.specs.written.Table.Definitions.{CALLBACK_INTERFACE_DEFINITION, INTERFACE_DEFINITION, PARTIAL_INTERFACE_DEFINITION}
use Rattle.weedle_grammar.specs.written.Table.InterfaceMembers.{BRACED_INTERFACE_MEMBERS, INHERITANCE, INTERFACE_MEMBER, INTERFACE_MEMBERS, OPT_DOCSTRING, OPT_INHERITANCE}
use Rattle.weedle_grammar.specs.written.Table.Keywords.{CALLBACK, INTERFACE, PARTIAL}
use Rattle.weedle_grammar.specs.written.Table.Leaves.{DOCSTRING, IDENTIFIER}
use Rattle.weedle_grammar.specs.written.Table.Symbols.{SEMI_COLON}
use Rattle.weedle_interfaces.specs.declared.definition.CallbackInterfaceDefinition.{CallbackInterfaceDefinition}
use Rattle.weedle_interfaces.specs.declared.definition.InterfaceDefinition.{InterfaceDefinition}
use Rattle.weedle_interfaces.specs.declared.definition.PartialInterfaceDefinition.{PartialInterfaceDefinition}
use Rattle.weedle_interfaces.specs.declared.member.InterfaceMember.{InterfaceMember}
use Rattle.weedle_interfaces.specs.written.Trees.{callback_interface_definition_tree, interface_definition_tree, interface_member_tree, partial_interface_definition_tree}
use Rattle.weedle_parts.proofs.PartRules.{braced_rule}
use Rattle.weedle_parts.specs.Brackets.{braced_reading}
use Rattle.weedle_parts.specs.ModifierTrees.{inheritance_tree}
use Rattle.weedle_parts.specs.ValueTrees.{braced_tree, docstring_tree, identifier_tree}
use Rattle.weedle_parts.specs.declared.common.brackets.Braced.{Braced}
use Rattle.weedle_parts.specs.declared.common.docstring.Docstring.{Docstring}
use Rattle.weedle_parts.specs.declared.common.identifier.Identifier.{Identifier}
use Rattle.weedle_parts.specs.declared.inheritance.Inheritance.{Inheritance}
use Rattle.weedle_types.proofs.SharedRules.{attributes_reading, attributes_rule, members_reading, members_rule, perhaps, word}
use Rattle.weedle_types.specs.PartTrees.{Attributes, members_tree}
use Rattle.weedle_types.specs.Steps.{members}
use Rattle.weedle_types.specs.Trees.{attributes_tree}

-- a callback interface
abbrev callback_interface_definition_parts : Reading ((Option Docstring) × (Attributes × (Callback × (Interface × (Identifier × ((Option Inheritance) × ((Braced (Vec InterfaceMember)) × SemiColon)))))))
callback_interface_definition_parts = pair_reading (option_reading (own DOCSTRING docstring_tree (Unit {0}))) (pair_reading attributes_reading (pair_reading (mark CALLBACK) (pair_reading (mark INTERFACE) (pair_reading (own IDENTIFIER identifier_tree ⊥) (pair_reading (option_reading (own INHERITANCE inheritance_tree ⊥)) (pair_reading (braced_reading (members_reading (own INTERFACE_MEMBER interface_member_tree (Unit {0})))) (mark SEMI_COLON)))))))

callback_interface_definition_rule : IsRule callback_interface_definition_parts CALLBACK_INTERFACE_DEFINITION (λ x. Node (trees (option_tree docstring_tree x.0 ∷ attributes_tree x.1.0 ∷ Mark ∷ Mark ∷ identifier_tree x.1.1.1.1.0 ∷ option_tree inheritance_tree x.1.1.1.1.1.0 ∷ braced_tree (members_tree interface_member_tree) x.1.1.1.1.1.1.0 ∷ Mark ∷ []))) (Unit {0})
callback_interface_definition_rule = seq_rule (seq_next (option_rule (own_rule DOCSTRING docstring_tree (Unit {0})) OPT_DOCSTRING refl refl) (seq_next attributes_rule (seq_next (word CALLBACK) (seq_next (word INTERFACE) (seq_next (still_rule (own_rule IDENTIFIER identifier_tree ⊥)) (seq_next (perhaps (own_rule INHERITANCE inheritance_tree ⊥) OPT_INHERITANCE refl refl) (seq_next (braced_rule (members_rule (own_rule INTERFACE_MEMBER interface_member_tree (Unit {0})) INTERFACE_MEMBERS refl refl) BRACED_INTERFACE_MEMBERS refl refl) (seq_last (word SEMI_COLON))))))))) CALLBACK_INTERFACE_DEFINITION refl refl

-- the parts give what the rule gives
pub callback_interface_definition_got : {s rest : List ℕ} (x : CallbackInterfaceDefinition) → Got callback_interface_definition_parts s (x.docstring, (x.attributes, (x.callback, (x.interface, (x.identifier, (x.inheritance, (x.members, x.semi_colon))))))) rest → Got (own CALLBACK_INTERFACE_DEFINITION callback_interface_definition_tree (Unit {0})) s x rest
callback_interface_definition_got x h = got_rule callback_interface_definition_rule callback_interface_definition_tree x h refl

-- a fault of the parts is one of the rule
pub callback_interface_definition_fault : {s : List ℕ} {e : Fault (Error (Bor (List ℕ)))} → Faults callback_interface_definition_parts s e → Faults (own CALLBACK_INTERFACE_DEFINITION callback_interface_definition_tree (Unit {0})) s e
callback_interface_definition_fault h = fault_rule callback_interface_definition_rule callback_interface_definition_tree h

-- an interface
abbrev interface_definition_parts : Reading ((Option Docstring) × (Attributes × (Interface × (Identifier × ((Option Inheritance) × ((Braced (Vec InterfaceMember)) × SemiColon))))))
interface_definition_parts = pair_reading (option_reading (own DOCSTRING docstring_tree (Unit {0}))) (pair_reading attributes_reading (pair_reading (mark INTERFACE) (pair_reading (own IDENTIFIER identifier_tree ⊥) (pair_reading (option_reading (own INHERITANCE inheritance_tree ⊥)) (pair_reading (braced_reading (members_reading (own INTERFACE_MEMBER interface_member_tree (Unit {0})))) (mark SEMI_COLON))))))

interface_definition_rule : IsRule interface_definition_parts INTERFACE_DEFINITION (λ x. Node (trees (option_tree docstring_tree x.0 ∷ attributes_tree x.1.0 ∷ Mark ∷ identifier_tree x.1.1.1.0 ∷ option_tree inheritance_tree x.1.1.1.1.0 ∷ braced_tree (members_tree interface_member_tree) x.1.1.1.1.1.0 ∷ Mark ∷ []))) (Unit {0})
interface_definition_rule = seq_rule (seq_next (option_rule (own_rule DOCSTRING docstring_tree (Unit {0})) OPT_DOCSTRING refl refl) (seq_next attributes_rule (seq_next (word INTERFACE) (seq_next (still_rule (own_rule IDENTIFIER identifier_tree ⊥)) (seq_next (perhaps (own_rule INHERITANCE inheritance_tree ⊥) OPT_INHERITANCE refl refl) (seq_next (braced_rule (members_rule (own_rule INTERFACE_MEMBER interface_member_tree (Unit {0})) INTERFACE_MEMBERS refl refl) BRACED_INTERFACE_MEMBERS refl refl) (seq_last (word SEMI_COLON)))))))) INTERFACE_DEFINITION refl refl

-- the parts give what the rule gives
pub interface_definition_got : {s rest : List ℕ} (x : InterfaceDefinition) → Got interface_definition_parts s (x.docstring, (x.attributes, (x.interface, (x.identifier, (x.inheritance, (x.members, x.semi_colon)))))) rest → Got (own INTERFACE_DEFINITION interface_definition_tree (Unit {0})) s x rest
interface_definition_got x h = got_rule interface_definition_rule interface_definition_tree x h refl

-- a fault of the parts is one of the rule
pub interface_definition_fault : {s : List ℕ} {e : Fault (Error (Bor (List ℕ)))} → Faults interface_definition_parts s e → Faults (own INTERFACE_DEFINITION interface_definition_tree (Unit {0})) s e
interface_definition_fault h = fault_rule interface_definition_rule interface_definition_tree h

-- a part of an interface
abbrev partial_interface_definition_parts : Reading (Attributes × (Partial × (Interface × (Identifier × ((Braced (Vec InterfaceMember)) × SemiColon)))))
partial_interface_definition_parts = pair_reading attributes_reading (pair_reading (mark PARTIAL) (pair_reading (mark INTERFACE) (pair_reading (own IDENTIFIER identifier_tree ⊥) (pair_reading (braced_reading (members_reading (own INTERFACE_MEMBER interface_member_tree (Unit {0})))) (mark SEMI_COLON)))))

partial_interface_definition_rule : IsRule partial_interface_definition_parts PARTIAL_INTERFACE_DEFINITION (λ x. Node (trees (attributes_tree x.0 ∷ Mark ∷ Mark ∷ identifier_tree x.1.1.1.0 ∷ braced_tree (members_tree interface_member_tree) x.1.1.1.1.0 ∷ Mark ∷ []))) (Unit {0})
partial_interface_definition_rule = seq_rule (seq_next attributes_rule (seq_next (word PARTIAL) (seq_next (word INTERFACE) (seq_next (still_rule (own_rule IDENTIFIER identifier_tree ⊥)) (seq_next (braced_rule (members_rule (own_rule INTERFACE_MEMBER interface_member_tree (Unit {0})) INTERFACE_MEMBERS refl refl) BRACED_INTERFACE_MEMBERS refl refl) (seq_last (word SEMI_COLON))))))) PARTIAL_INTERFACE_DEFINITION refl refl

-- the parts give what the rule gives
pub partial_interface_definition_got : {s rest : List ℕ} (x : PartialInterfaceDefinition) → Got partial_interface_definition_parts s (x.attributes, (x.partial, (x.interface, (x.identifier, (x.members, x.semi_colon))))) rest → Got (own PARTIAL_INTERFACE_DEFINITION partial_interface_definition_tree (Unit {0})) s x rest
partial_interface_definition_got x h = got_rule partial_interface_definition_rule partial_interface_definition_tree x h refl

-- a fault of the parts is one of the rule
pub partial_interface_definition_fault : {s : List ℕ} {e : Fault (Error (Bor (List ℕ)))} → Faults partial_interface_definition_parts s e → Faults (own PARTIAL_INTERFACE_DEFINITION partial_interface_definition_tree (Unit {0})) s e
partial_interface_definition_fault h = fault_rule partial_interface_definition_rule partial_interface_definition_tree h

-- what the search for the proof of its `parse` uses
pub ruleset callback_interface_definition_steps = (callback_interface_definition_got, callback_interface_definition_fault)

-- what the search for the proof of its `parse` uses
pub ruleset interface_definition_steps = (interface_definition_got, interface_definition_fault)

-- what the search for the proof of its `parse` uses
pub ruleset partial_interface_definition_steps = (partial_interface_definition_got, partial_interface_definition_fault)

-- Dictionaries. Written by tools/idl_proofs.py, and not edited by hand.
use Rattle.std.proofs.Common.{refl}
use Rattle.std.specs.Borrow.{Bor}
use Rattle.std.specs.Global.{Vec}
use Rattle.std.specs.Prelude.{ℕ, List, [], ◌∷◌, Option}
use Rattle.weedle_base.proofs.RuleFacts.{fault_rule, got_rule, mark, option_rule, own_rule, seq_last, seq_next, seq_rule, still_rule}
use Rattle.weedle_base.specs.Generic.{option_reading, pair_reading}
use Rattle.weedle_base.specs.Own.{own}
use Rattle.weedle_base.specs.Reading.{Faults, Got, Reading}
use Rattle.weedle_base.specs.Rules.{IsRule, option_tree}
use Rattle.weedle_base.specs.declared.fault.Err.{Err as Fault}
use Rattle.weedle_base.specs.declared.fault.Error.{Error}
use Rattle.weedle_base.specs.declared.term.written.definition_keywords.Dictionary.{Dictionary}
use Rattle.weedle_base.specs.declared.term.written.definition_keywords.Partial.{Partial}
use Rattle.weedle_base.specs.declared.term.written.symbols.SemiColon.{SemiColon}
use Rattle.weedle_grammar.specs.Trees.{Mark, Node, trees}
use Rattle.weedle_grammar.specs.written.Table.Definitions.{DICTIONARY_DEFINITION, PARTIAL_DICTIONARY_DEFINITION}
use Rattle.weedle_grammar.specs.written.Table.InterfaceMembers.{INHERITANCE, OPT_DOCSTRING, OPT_INHERITANCE}
use Rattle.weedle_grammar.specs.written.Table.Keywords.{DICTIONARY, PARTIAL}
use Rattle.weedle_grammar.specs.written.Table.Leaves.{DOCSTRING, IDENTIFIER}
use Rattle.weedle_grammar.specs.written.Table.OtherMembers.{BRACED_DICTIONARY_MEMBERS, DICTIONARY_MEMBER, DICTIONARY_MEMBERS}
use Rattle.weedle_grammar.specs.written.Table.Symbols.{SEMI_COLON}
use Rattle.weedle_namespaces.specs.declared.dictionary.DictionaryMember.{DictionaryMember}
use Rattle.weedle_namespaces.specs.declared.dictionary_definition.DictionaryDefinition.{DictionaryDefinition}
use Rattle.weedle_namespaces.specs.declared.dictionary_definition.PartialDictionaryDefinition.{PartialDictionaryDefinition}
use Rattle.weedle_namespaces.specs.written.Trees.{dictionary_definition_tree, dictionary_member_tree, partial_dictionary_definition_tree}
use Rattle.weedle_parts.proofs.PartRules.{braced_rule}
use Rattle.weedle_parts.specs.Brackets.{braced_reading}
use Rattle.weedle_parts.specs.ModifierTrees.{inheritance_tree}
use Rattle.weedle_parts.specs.ValueTrees.{braced_tree, docstring_tree, identifier_tree}
use Rattle.weedle_parts.specs.declared.common.brackets.Braced.{Braced}
use Rattle.weedle_parts.specs.declared.common.docstring.Docstring.{Docstring}
use Rattle.weedle_parts.specs.declared.common.identifier.Identifier.{Identifier}
use Rattle.weedle_parts.specs.declared.inheritance.Inheritance.{Inheritance}
use Rattle.weedle_types.proofs.SharedRules.{attributes_reading, attributes_rule, members_reading, members_rule, perhaps, word}
use Rattle.weedle_types.specs.PartTrees.{Attributes, members_tree}
use Rattle.weedle_types.specs.Steps.{members}
use Rattle.weedle_types.specs.Trees.{attributes_tree}

-- a dictionary
abbrev dictionary_definition_parts : Reading ((Option Docstring) × (Attributes × (Dictionary × (Identifier × ((Option Inheritance) × ((Braced (Vec DictionaryMember)) × SemiColon))))))
dictionary_definition_parts = pair_reading (option_reading (own DOCSTRING docstring_tree (Unit {0}))) (pair_reading attributes_reading (pair_reading (mark DICTIONARY) (pair_reading (own IDENTIFIER identifier_tree ⊥) (pair_reading (option_reading (own INHERITANCE inheritance_tree ⊥)) (pair_reading (braced_reading (members_reading (own DICTIONARY_MEMBER dictionary_member_tree (Unit {0})))) (mark SEMI_COLON))))))

dictionary_definition_rule : IsRule dictionary_definition_parts DICTIONARY_DEFINITION (λ x. Node (trees (option_tree docstring_tree x.0 ∷ attributes_tree x.1.0 ∷ Mark ∷ identifier_tree x.1.1.1.0 ∷ option_tree inheritance_tree x.1.1.1.1.0 ∷ braced_tree (members_tree dictionary_member_tree) x.1.1.1.1.1.0 ∷ Mark ∷ []))) (Unit {0})
dictionary_definition_rule = seq_rule (seq_next (option_rule (own_rule DOCSTRING docstring_tree (Unit {0})) OPT_DOCSTRING refl refl) (seq_next attributes_rule (seq_next (word DICTIONARY) (seq_next (still_rule (own_rule IDENTIFIER identifier_tree ⊥)) (seq_next (perhaps (own_rule INHERITANCE inheritance_tree ⊥) OPT_INHERITANCE refl refl) (seq_next (braced_rule (members_rule (own_rule DICTIONARY_MEMBER dictionary_member_tree (Unit {0})) DICTIONARY_MEMBERS refl refl) BRACED_DICTIONARY_MEMBERS refl refl) (seq_last (word SEMI_COLON)))))))) DICTIONARY_DEFINITION refl refl

-- the parts give what the rule gives
pub dictionary_definition_got : {s rest : List ℕ} (x : DictionaryDefinition) → Got dictionary_definition_parts s (x.docstring, (x.attributes, (x.dictionary, (x.identifier, (x.inheritance, (x.members, x.semi_colon)))))) rest → Got (own DICTIONARY_DEFINITION dictionary_definition_tree (Unit {0})) s x rest
dictionary_definition_got x h = got_rule dictionary_definition_rule dictionary_definition_tree x h refl

-- a fault of the parts is one of the rule
pub dictionary_definition_fault : {s : List ℕ} {e : Fault (Error (Bor (List ℕ)))} → Faults dictionary_definition_parts s e → Faults (own DICTIONARY_DEFINITION dictionary_definition_tree (Unit {0})) s e
dictionary_definition_fault h = fault_rule dictionary_definition_rule dictionary_definition_tree h

-- a part of a dictionary
abbrev partial_dictionary_definition_parts : Reading (Attributes × (Partial × (Dictionary × (Identifier × ((Braced (Vec DictionaryMember)) × SemiColon)))))
partial_dictionary_definition_parts = pair_reading attributes_reading (pair_reading (mark PARTIAL) (pair_reading (mark DICTIONARY) (pair_reading (own IDENTIFIER identifier_tree ⊥) (pair_reading (braced_reading (members_reading (own DICTIONARY_MEMBER dictionary_member_tree (Unit {0})))) (mark SEMI_COLON)))))

partial_dictionary_definition_rule : IsRule partial_dictionary_definition_parts PARTIAL_DICTIONARY_DEFINITION (λ x. Node (trees (attributes_tree x.0 ∷ Mark ∷ Mark ∷ identifier_tree x.1.1.1.0 ∷ braced_tree (members_tree dictionary_member_tree) x.1.1.1.1.0 ∷ Mark ∷ []))) (Unit {0})
partial_dictionary_definition_rule = seq_rule (seq_next attributes_rule (seq_next (word PARTIAL) (seq_next (word DICTIONARY) (seq_next (still_rule (own_rule IDENTIFIER identifier_tree ⊥)) (seq_next (braced_rule (members_rule (own_rule DICTIONARY_MEMBER dictionary_member_tree (Unit {0})) DICTIONARY_MEMBERS refl refl) BRACED_DICTIONARY_MEMBERS refl refl) (seq_last (word SEMI_COLON))))))) PARTIAL_DICTIONARY_DEFINITION refl refl

-- the parts give what the rule gives
pub partial_dictionary_definition_got : {s rest : List ℕ} (x : PartialDictionaryDefinition) → Got partial_dictionary_definition_parts s (x.attributes, (x.partial, (x.dictionary, (x.identifier, (x.members, x.semi_colon))))) rest → Got (own PARTIAL_DICTIONARY_DEFINITION partial_dictionary_definition_tree (Unit {0})) s x rest
partial_dictionary_definition_got x h = got_rule partial_dictionary_definition_rule partial_dictionary_definition_tree x h refl

-- a fault of the parts is one of the rule
pub partial_dictionary_definition_fault : {s : List ℕ} {e : Fault (Error (Bor (List ℕ)))} → Faults partial_dictionary_definition_parts s e → Faults (own PARTIAL_DICTIONARY_DEFINITION partial_dictionary_definition_tree (Unit {0})) s e
partial_dictionary_definition_fault h = fault_rule partial_dictionary_definition_rule partial_dictionary_definition_tree h

-- what the search for the proof of its `parse` uses
pub ruleset dictionary_definition_steps = (dictionary_definition_got, dictionary_definition_fault)

-- what the search for the proof of its `parse` uses
pub ruleset partial_dictionary_definition_steps = (partial_dictionary_definition_got, partial_dictionary_definition_fault)

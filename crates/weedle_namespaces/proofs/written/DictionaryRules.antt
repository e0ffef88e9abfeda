-- Members of dictionaries. Written by tools/idl_proofs.py, and not edited by hand.
use Rattle.std.proofs.Common.{refl}
use Rattle.std.specs.Borrow.{Bor}
use Rattle.std.specs.Prelude.{ℕ, List, [], ◌∷◌, Option}
use Rattle.weedle_base.proofs.RuleFacts.{fault_rule, got_rule, mark, mark_rule, option_rule, own_rule, seq_last, seq_next, seq_rule, still_rule}
use Rattle.weedle_base.specs.Generic.{option_reading, pair_reading}
use Rattle.weedle_base.specs.Own.{own}
use Rattle.weedle_base.specs.Reading.{Faults, Got, Reading}
use Rattle.weedle_base.specs.Rules.{IsRule, mark_tree, option_tree}
use Rattle.weedle_base.specs.declared.fault.Err.{Err as Fault}
use Rattle.weedle_base.specs.declared.fault.Error.{Error}
use Rattle.weedle_base.specs.declared.term.written.definition_keywords.Required.{Required}
use Rattle.weedle_base.specs.declared.term.written.symbols.SemiColon.{SemiColon}
use Rattle.weedle_grammar.specs.Trees.{Mark, Node, trees}
use Rattle.weedle_grammar.specs.written.Table.InterfaceMembers.{OPT_DOCSTRING}
use Rattle.weedle_grammar.specs.written.Table.Keywords.{REQUIRED}
use Rattle.weedle_grammar.specs.written.Table.Leaves.{DOCSTRING, IDENTIFIER}
use Rattle.weedle_grammar.specs.written.Table.Literals.{DEFAULT}
use Rattle.weedle_grammar.specs.written.Table.OtherMembers.{DICTIONARY_MEMBER, OPT_REQUIRED}
use Rattle.weedle_grammar.specs.written.Table.Symbols.{SEMI_COLON}
use Rattle.weedle_grammar.specs.written.Table.Types.{OPT_DEFAULT, TYPE}
use Rattle.weedle_namespaces.specs.declared.dictionary.DictionaryMember.{DictionaryMember}
use Rattle.weedle_namespaces.specs.written.Trees.{dictionary_member_tree}
use Rattle.weedle_parts.specs.LiteralTrees.{default_tree}
use Rattle.weedle_parts.specs.ValueTrees.{docstring_tree, identifier_tree}
use Rattle.weedle_parts.specs.declared.common.docstring.Docstring.{Docstring}
use Rattle.weedle_parts.specs.declared.common.identifier.Identifier.{Identifier}
use Rattle.weedle_parts.specs.declared.literal.default.Default.{Default}
use Rattle.weedle_types.proofs.SharedRules.{attributes_reading, attributes_rule, perhaps, word}
use Rattle.weedle_types.specs.PartTrees.{Attributes}
use Rattle.weedle_types.specs.Trees.{attributes_tree, type_tree}
use Rattle.weedle_types.specs.declared.types.«Type».{«Type»}

-- a member
abbrev dictionary_member_parts : Reading ((Option Docstring) × (Attributes × ((Option Required) × («Type» × (Identifier × ((Option Default) × SemiColon))))))
dictionary_member_parts = pair_reading (option_reading (own DOCSTRING docstring_tree (Unit {0}))) (pair_reading attributes_reading (pair_reading (option_reading (mark REQUIRED)) (pair_reading (own TYPE type_tree (Unit {0})) (pair_reading (own IDENTIFIER identifier_tree ⊥) (pair_reading (option_reading (own DEFAULT default_tree ⊥)) (mark SEMI_COLON))))))

dictionary_member_rule : IsRule dictionary_member_parts DICTIONARY_MEMBER (λ x. Node (trees (option_tree docstring_tree x.0 ∷ attributes_tree x.1.0 ∷ option_tree mark_tree x.1.1.0 ∷ type_tree x.1.1.1.0 ∷ identifier_tree x.1.1.1.1.0 ∷ option_tree default_tree x.1.1.1.1.1.0 ∷ Mark ∷ []))) (Unit {0})
dictionary_member_rule = seq_rule (seq_next (option_rule (own_rule DOCSTRING docstring_tree (Unit {0})) OPT_DOCSTRING refl refl) (seq_next attributes_rule (seq_next (perhaps (mark_rule REQUIRED) OPT_REQUIRED refl refl) (seq_next (own_rule TYPE type_tree (Unit {0})) (seq_next (still_rule (own_rule IDENTIFIER identifier_tree ⊥)) (seq_next (perhaps (own_rule DEFAULT default_tree ⊥) OPT_DEFAULT refl refl) (seq_last (word SEMI_COLON)))))))) DICTIONARY_MEMBER refl refl

-- the parts give what the rule gives
pub dictionary_member_got : {s rest : List ℕ} (x : DictionaryMember) → Got dictionary_member_parts s (x.docstring, (x.attributes, (x.required, (x.type_, (x.identifier, (x.default, x.semi_colon)))))) rest → Got (own DICTIONARY_MEMBER dictionary_member_tree (Unit {0})) s x rest
dictionary_member_got x h = got_rule dictionary_member_rule dictionary_member_tree x h refl

-- a fault of the parts is one of the rule
pub dictionary_member_fault : {s : List ℕ} {e : Fault (Error (Bor (List ℕ)))} → Faults dictionary_member_parts s e → Faults (own DICTIONARY_MEMBER dictionary_member_tree (Unit {0})) s e
dictionary_member_fault h = fault_rule dictionary_member_rule dictionary_member_tree h

-- what the search for the proof of its `parse` uses
pub ruleset dictionary_member_steps = (dictionary_member_got, dictionary_member_fault)

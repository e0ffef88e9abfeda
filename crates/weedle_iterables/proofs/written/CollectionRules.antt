-- Maps and sets. Written by tools/idl_proofs.py, and not edited by hand.
use Rattle.std.proofs.Common.{refl}
use Rattle.std.specs.Borrow.{Bor}
use Rattle.std.specs.Prelude.{ℕ, List, [], ◌∷◌, Option}
use Rattle.weedle_base.proofs.RuleFacts.{fault_rule, got_rule, mark, mark_rule, seq_last, seq_next, seq_rule}
use Rattle.weedle_base.specs.Generic.{option_reading, pair_reading}
use Rattle.weedle_base.specs.Own.{own}
use Rattle.weedle_base.specs.Reading.{Faults, Got, Reading}
use Rattle.weedle_base.specs.Rules.{IsRule, mark_tree, option_tree}
use Rattle.weedle_base.specs.declared.fault.Err.{Err as Fault}
use Rattle.weedle_base.specs.declared.fault.Error.{Error}
use Rattle.weedle_base.specs.declared.term.written.definition_keywords.Maplike.{Maplike}
use Rattle.weedle_base.specs.declared.term.written.definition_keywords.ReadOnly.{ReadOnly}
use Rattle.weedle_base.specs.declared.term.written.definition_keywords.Setlike.{Setlike}
use Rattle.weedle_base.specs.declared.term.written.symbols.SemiColon.{SemiColon}
use Rattle.weedle_grammar.specs.Trees.{Mark, Node, trees}
use Rattle.weedle_grammar.specs.written.Table.InterfaceMembers.{MAPLIKE_INTERFACE_MEMBER, OPT_READ_ONLY, SETLIKE_INTERFACE_MEMBER}
use Rattle.weedle_grammar.specs.written.Table.Keywords.{MAPLIKE, READ_ONLY, SETLIKE}
use Rattle.weedle_grammar.specs.written.Table.Symbols.{SEMI_COLON}
use Rattle.weedle_iterables.specs.declared.collection.MaplikeInterfaceMember.{MaplikeInterfaceMember}
use Rattle.weedle_iterables.specs.declared.collection.SetlikeInterfaceMember.{SetlikeInterfaceMember}
use Rattle.weedle_iterables.specs.written.Trees.{maplike_interface_member_tree, setlike_interface_member_tree}
use Rattle.weedle_types.proofs.GenericsRules.{one_type_reading, one_type_rule, two_types_reading, two_types_rule}
use Rattle.weedle_types.proofs.SharedRules.{attributes_reading, attributes_rule, perhaps, word}
use Rattle.weedle_types.specs.GenericsTrees.{OneType, TwoTypes, one_type_tree, two_types_tree}
use Rattle.weedle_types.specs.PartTrees.{Attributes}
use Rattle.weedle_types.specs.Trees.{attributes_tree}

-- a map
abbrev maplike_interface_member_parts : Reading (Attributes × ((Option ReadOnly) × (Maplike × (TwoTypes × SemiColon))))
maplike_interface_member_parts = pair_reading attributes_reading (pair_reading (option_reading (mark READ_ONLY)) (pair_reading (mark MAPLIKE) (pair_reading two_types_reading (mark SEMI_COLON))))

maplike_interface_member_rule : IsRule maplike_interface_member_parts MAPLIKE_INTERFACE_MEMBER (λ x. Node (trees (attributes_tree x.0 ∷ option_tree mark_tree x.1.0 ∷ Mark ∷ two_types_tree x.1.1.1.0 ∷ Mark ∷ []))) (Unit {0})
maplike_interface_member_rule = seq_rule (seq_next attributes_rule (seq_next (perhaps (mark_rule READ_ONLY) OPT_READ_ONLY refl refl) (seq_next (word MAPLIKE) (seq_next two_types_rule (seq_last (word SEMI_COLON)))))) MAPLIKE_INTERFACE_MEMBER refl refl

-- the parts give what the rule gives
pub maplike_interface_member_got : {s rest : List ℕ} (x : MaplikeInterfaceMember) → Got maplike_interface_member_parts s (x.attributes, (x.readonly, (x.maplike, (x.generics, x.semi_colon)))) rest → Got (own MAPLIKE_INTERFACE_MEMBER maplike_interface_member_tree (Unit {0})) s x rest
maplike_interface_member_got x h = got_rule maplike_interface_member_rule maplike_interface_member_tree x h refl

-- a fault of the parts is one of the rule
pub maplike_interface_member_fault : {s : List ℕ} {e : Fault (Error (Bor (List ℕ)))} → Faults maplike_interface_member_parts s e → Faults (own MAPLIKE_INTERFACE_MEMBER maplike_interface_member_tree (Unit {0})) s e
maplike_interface_member_fault h = fault_rule maplike_interface_member_rule maplike_interface_member_tree h

-- a set
abbrev setlike_interface_member_parts : Reading (Attributes × ((Option ReadOnly) × (Setlike × (OneType × SemiColon))))
setlike_interface_member_parts = pair_reading attributes_reading (pair_reading (option_reading (mark READ_ONLY)) (pair_reading (mark SETLIKE) (pair_reading one_type_reading (mark SEMI_COLON))))

setlike_interface_member_rule : IsRule setlike_interface_member_parts SETLIKE_INTERFACE_MEMBER (λ x. Node (trees (attributes_tree x.0 ∷ option_tree mark_tree x.1.0 ∷ Mark ∷ one_type_tree x.1.1.1.0 ∷ Mark ∷ []))) (Unit {0})
setlike_interface_member_rule = seq_rule (seq_next attributes_rule (seq_next (perhaps (mark_rule READ_ONLY) OPT_READ_ONLY refl refl) (seq_next (word SETLIKE) (seq_next one_type_rule (seq_last (word SEMI_COLON)))))) SETLIKE_INTERFACE_MEMBER refl refl

-- the parts give what the rule gives
pub setlike_interface_member_got : {s rest : List ℕ} (x : SetlikeInterfaceMember) → Got setlike_interface_member_parts s (x.attributes, (x.readonly, (x.setlike, (x.generics, x.semi_colon)))) rest → Got (own SETLIKE_INTERFACE_MEMBER setlike_interface_member_tree (Unit {0})) s x rest
setlike_interface_member_got x h = got_rule setlike_interface_member_rule setlike_interface_member_tree x h refl

-- a fault of the parts is one of the rule
pub setlike_interface_member_fault : {s : List ℕ} {e : Fault (Error (Bor (List ℕ)))} → Faults setlike_interface_member_parts s e → Faults (own SETLIKE_INTERFACE_MEMBER setlike_interface_member_tree (Unit {0})) s e
setlike_interface_member_fault h = fault_rule setlike_interface_member_rule setlike_interface_member_tree h

-- what the search for the proof of its `parse` uses
pub ruleset maplike_interface_member_steps = (maplike_interface_member_got, maplike_interface_member_fault)

-- what the search for the proof of its `parse` uses
pub ruleset setlike_interface_member_steps = (setlike_interface_member_got, setlike_interface_member_fault)

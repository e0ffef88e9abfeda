-- Enums. Written by tools/idl_proofs.py, and not edited by hand.
use Rattle.std.proofs.Common.{refl}
use Rattle.std.specs.Borrow.{Bor}
use Rattle.std.specs.Prelude.{ℕ, List, [], ◌∷◌, Option}
use Rattle.weedle_base.proofs.RuleFacts.{fault_rule, got_rule, mark, option_rule, own_rule, seq_last, seq_next, seq_rule, still_rule}
use Rattle.weedle_base.proofs.Steps.{part_steps}
use Rattle.weedle_base.specs.Generic.{option_reading, pair_reading}
use Rattle.weedle_base.specs.Own.{own}
use Rattle.weedle_base.specs.Reading.{Faults, Got, Reading}
use Rattle.weedle_base.specs.Rules.{IsRule, option_tree}
use Rattle.weedle_base.specs.declared.fault.Err.{Err as Fault}
use Rattle.weedle_base.specs.declared.fault.Error.{Error}
use Rattle.weedle_base.specs.declared.term.written.definition_keywords.Enum.{Enum}
use Rattle.weedle_base.specs.declared.term.written.symbols.SemiColon.{SemiColon}
use Rattle.weedle_grammar.specs.Trees.{Mark, Node, trees}
use Rattle.weedle_grammar.specs.written.Table.Definitions.{ENUM_DEFINITION}
use Rattle.weedle_grammar.specs.written.Table.InterfaceMembers.{OPT_DOCSTRING}
use Rattle.weedle_grammar.specs.written.Table.Keywords.{ENUM}
use Rattle.weedle_grammar.specs.written.Table.Leaves.{DOCSTRING, IDENTIFIER}
use Rattle.weedle_grammar.specs.written.Table.Symbols.{SEMI_COLON}
use Rattle.weedle_parts.specs.ValueTrees.{docstring_tree, identifier_tree}
use Rattle.weedle_parts.specs.declared.common.docstring.Docstring.{Docstring}
use Rattle.weedle_parts.specs.declared.common.identifier.Identifier.{Identifier}
use Rattle.weedle_statements.proofs.EnumValueRules.{enum_values_reading, enum_values_rule}
use Rattle.weedle_statements.specs.declared.enums.EnumDefinition.{EnumDefinition}
use Rattle.weedle_statements.specs.written.Trees.{EnumValues, enum_definition_tree, enum_values_tree}
use Rattle.weedle_types.proofs.SharedRules.{attributes_reading, attributes_rule, word}
use Rattle.weedle_types.specs.PartTrees.{Attributes}
use Rattle.weedle_types.specs.Trees.{attributes_tree}

-- an enum
abbrev enum_definition_parts : Reading ((Option Docstring) × (Attributes × (Enum × (Identifier × (EnumValues × SemiColon)))))
enum_definition_parts = pair_reading (option_reading (own DOCSTRING docstring_tree (Unit {0}))) (pair_reading attributes_reading (pair_reading (mark ENUM) (pair_reading (own IDENTIFIER identifier_tree ⊥) (pair_reading enum_values_reading (mark SEMI_COLON)))))

enum_definition_rule : IsRule enum_definition_parts ENUM_DEFINITION (λ x. Node (trees (option_tree docstring_tree x.0 ∷ attributes_tree x.1.0 ∷ Mark ∷ identifier_tree x.1.1.1.0 ∷ enum_values_tree x.1.1.1.1.0 ∷ Mark ∷ []))) (Unit {0})
enum_definition_rule = seq_rule (seq_next (option_rule (own_rule DOCSTRING docstring_tree (Unit {0})) OPT_DOCSTRING refl refl) (seq_next attributes_rule (seq_next (word ENUM) (seq_next (still_rule (own_rule IDENTIFIER identifier_tree ⊥)) (seq_next enum_values_rule (seq_last (word SEMI_COLON))))))) ENUM_DEFINITION refl refl

-- the parts give what the rule gives
pub enum_definition_got : {s rest : List ℕ} (x : EnumDefinition) → Got enum_definition_parts s (x.docstring, (x.attributes, (x.enum_, (x.identifier, (x.values, x.semi_colon))))) rest → Got (own ENUM_DEFINITION enum_definition_tree (Unit {0})) s x rest
enum_definition_got x h = got_rule enum_definition_rule enum_definition_tree x h refl

-- a fault of the parts is one of the rule
pub enum_definition_fault : {s : List ℕ} {e : Fault (Error (Bor (List ℕ)))} → Faults enum_definition_parts s e → Faults (own ENUM_DEFINITION enum_definition_tree (Unit {0})) s e
enum_definition_fault h = fault_rule enum_definition_rule enum_definition_tree h

-- what the search for the proof of its `parse` uses
pub ruleset enum_definition_steps = (part_steps, enum_definition_got, enum_definition_fault)

-- Names for types. Written by tools/idl_proofs.py, and not edited by hand.
use Rattle.std.proofs.Common.{refl}
use Rattle.std.specs.Borrow.{Bor}
use Rattle.std.specs.Prelude.{ℕ, List, [], ◌∷◌}
use Rattle.weedle_base.proofs.RuleFacts.{fault_rule, got_rule, mark, own_rule, seq_last, seq_next, seq_rule, still_rule}
use Rattle.weedle_base.specs.Generic.{pair_reading}
use Rattle.weedle_base.specs.Own.{own}
use Rattle.weedle_base.specs.Reading.{Faults, Got, Reading}
use Rattle.weedle_base.specs.Rules.{IsRule}
use Rattle.weedle_base.specs.declared.fault.Err.{Err as Fault}
use Rattle.weedle_base.specs.declared.fault.Error.{Error}
use Rattle.weedle_base.specs.declared.term.written.definition_keywords.Typedef.{Typedef}
use Rattle.weedle_base.specs.declared.term.written.symbols.SemiColon.{SemiColon}
use Rattle.weedle_grammar.specs.Trees.{Mark, Node, trees}
use Rattle.weedle_grammar.specs.written.Table.Definitions.{TYPEDEF_DEFINITION}
use Rattle.weedle_grammar.specs.written.Table.Keywords.{TYPEDEF}
use Rattle.weedle_grammar.specs.written.Table.Leaves.{IDENTIFIER}
use Rattle.weedle_grammar.specs.written.Table.Symbols.{SEMI_COLON}
use Rattle.weedle_grammar.specs.written.Table.Types.{ATTRIBUTED_TYPE}
use Rattle.weedle_parts.specs.ValueTrees.{identifier_tree}
use Rattle.weedle_parts.specs.declared.common.identifier.Identifier.{Identifier}
use Rattle.weedle_statements.specs.declared.typedef.TypedefDefinition.{TypedefDefinition}
use Rattle.weedle_statements.specs.written.Trees.{typedef_definition_tree}
use Rattle.weedle_types.proofs.SharedRules.{attributes_reading, attributes_rule, word}
use Rattle.weedle_types.specs.PartTrees.{Attributes}
use Rattle.weedle_types.specs.Trees.{attributed_type_tree, attributes_tree}
use Rattle.weedle_types.specs.declared.types.AttributedType.{AttributedType}

-- a name for a type
abbrev typedef_definition_parts : Reading (Attributes × (Typedef × (AttributedType × (Identifier × SemiColon))))
typedef_definition_parts = pair_reading attributes_reading (pair_reading (mark TYPEDEF) (pair_reading (own ATTRIBUTED_TYPE attributed_type_tree (Unit {0})) (pair_reading (own IDENTIFIER identifier_tree ⊥) (mark SEMI_COLON))))

typedef_definition_rule : IsRule typedef_definition_parts TYPEDEF_DEFINITION (λ x. Node (trees (attributes_tree x.0 ∷ Mark ∷ attributed_type_tree x.1.1.0 ∷ identifier_tree x.1.1.1.0 ∷ Mark ∷ []))) (Unit {0})
typedef_definition_rule = seq_rule (seq_next attributes_rule (seq_next (word TYPEDEF) (seq_next (own_rule ATTRIBUTED_TYPE attributed_type_tree (Unit {0})) (seq_next (still_rule (own_rule IDENTIFIER identifier_tree ⊥)) (seq_last (word SEMI_COLON)))))) TYPEDEF_DEFINITION refl refl

-- the parts give what the rule gives
pub typedef_definition_got : {s rest : List ℕ} (x : TypedefDefinition) → Got typedef_definition_parts s (x.attributes, (x.typedef, (x.type_, (x.identifier, x.semi_colon)))) rest → Got (own TYPEDEF_DEFINITION typedef_definition_tree (Unit {0})) s x rest
typedef_definition_got x h = got_rule typedef_definition_rule typedef_definition_tree x h refl

-- a fault of the parts is one of the rule
pub typedef_definition_fault : {s : List ℕ} {e : Fault (Error (Bor (List ℕ)))} → Faults typedef_definition_parts s e → Faults (own TYPEDEF_DEFINITION typedef_definition_tree (Unit {0})) s e
typedef_definition_fault h = fault_rule typedef_definition_rule typedef_definition_tree h

-- what the search for the proof of its `parse` uses
pub ruleset typedef_definition_steps = (typedef_definition_got, typedef_definition_fault)

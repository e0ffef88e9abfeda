-- The statements that an interface uses a mixin or another interface. Written by tools/idl_proofs.py, and not edited by hand.
use Rattle.std.proofs.Common.{refl}
use Rattle.std.specs.Borrow.{Bor}
use Rattle.std.specs.Prelude.{ℕ, List, [], ◌∷◌}
use Rattle.weedle_base.proofs.RuleFacts.{fault_rule, got_rule, mark, own_rule, seq_last, seq_next, seq_rule, still_rule}
use Rattle.weedle_base.specs.Generic.{pair_reading}
use Rattle.weedle_base.specs.Own.{own}
use Rattle.weedle_base.specs.Reading.{Faults, Got, Reading}
use Rattle.weedle_base.specs.Rules.{IsRule}
use Rattle.weedle_base.specs.declared.fault.Err.{Err as Fault}
use Rattle.weedle_base.specs.declared.fault.Error.{Error}
use Rattle.weedle_base.specs.declared.term.written.definition_keywords.Implements.{Implements}
use Rattle.weedle_base.specs.declared.term.written.definition_keywords.Includes.{Includes}
use Rattle.weedle_base.specs.declared.term.written.symbols.SemiColon.{SemiColon}
use Rattle.weedle_grammar.specs.Trees.{Mark, Node, trees}
use Rattle.weedle_grammar.specs.written.Table.Definitions.{IMPLEMENTS_DEFINITION, INCLUDES_STATEMENT_DEFINITION}
use Rattle.weedle_grammar.specs.written.Table.Keywords.{IMPLEMENTS, INCLUDES}
use Rattle.weedle_grammar.specs.written.Table.Leaves.{IDENTIFIER}
use Rattle.weedle_grammar.specs.written.Table.Symbols.{SEMI_COLON}
use Rattle.weedle_parts.specs.ValueTrees.{identifier_tree}
use Rattle.weedle_parts.specs.declared.common.identifier.Identifier.{Identifier}
use Rattle.weedle_statements.specs.declared.statement.ImplementsDefinition.{ImplementsDefinition}
use Rattle.weedle_statements.specs.declared.statement.IncludesStatementDefinition.{IncludesStatementDefinition}
use Rattle.weedle_statements.specs.written.Trees.{implements_definition_tree, includes_statement_definition_tree}
use Rattle.weedle_types.proofs.SharedRules.{attributes_reading, attributes_rule, word}
use Rattle.weedle_types.specs.PartTrees.{Attributes}
use Rattle.weedle_types.specs.Trees.{attributes_tree}

-- the use of a mixin
abbrev includes_statement_definition_parts : Reading (Attributes × (Identifier × (Includes × (Identifier × SemiColon))))
includes_statement_definition_parts = pair_reading attributes_reading (pair_reading (own IDENTIFIER identifier_tree ⊥) (pair_reading (mark INCLUDES) (pair_reading (own IDENTIFIER identifier_tree ⊥) (mark SEMI_COLON))))

includes_statement_definition_rule : IsRule includes_statement_definition_parts INCLUDES_STATEMENT_DEFINITION (λ x. Node (trees (attributes_tree x.0 ∷ identifier_tree x.1.0 ∷ Mark ∷ identifier_tree x.1.1.1.0 ∷ Mark ∷ []))) (Unit {0})
includes_statement_definition_rule = seq_rule (seq_next attributes_rule (seq_next (still_rule (own_rule IDENTIFIER identifier_tree ⊥)) (seq_next (word INCLUDES) (seq_next (still_rule (own_rule IDENTIFIER identifier_tree ⊥)) (seq_last (word SEMI_COLON)))))) INCLUDES_STATEMENT_DEFINITION refl refl

-- the parts give what the rule gives
pub includes_statement_definition_got : {s rest : List ℕ} (x : IncludesStatementDefinition) → Got includes_statement_definition_parts s (x.attributes, (x.lhs_identifier, (x.includes, (x.rhs_identifier, x.semi_colon)))) rest → Got (own INCLUDES_STATEMENT_DEFINITION includes_statement_definition_tree (Unit {0})) s x rest
includes_statement_definition_got x h = got_rule includes_statement_definition_rule includes_statement_definition_tree x h refl

-- a fault of the parts is one of the rule
pub includes_statement_definition_fault : {s : List ℕ} {e : Fault (Error (Bor (List ℕ)))} → Faults includes_statement_definition_parts s e → Faults (own INCLUDES_STATEMENT_DEFINITION includes_statement_definition_tree (Unit {0})) s e
includes_statement_definition_fault h = fault_rule includes_statement_definition_rule includes_statement_definition_tree h

-- the older form
abbrev implements_definition_parts : Reading (Attributes × (Identifier × (Implements × (Identifier × SemiColon))))
implements_definition_parts = pair_reading attributes_reading (pair_reading (own IDENTIFIER identifier_tree ⊥) (pair_reading (mark IMPLEMENTS) (pair_reading (own IDENTIFIER identifier_tree ⊥) (mark SEMI_COLON))))

implements_definition_rule : IsRule implements_definition_parts IMPLEMENTS_DEFINITION (λ x. Node (trees (attributes_tree x.0 ∷ identifier_tree x.1.0 ∷ Mark ∷ identifier_tree x.1.1.1.0 ∷ Mark ∷ []))) (Unit {0})
implements_definition_rule = seq_rule (seq_next attributes_rule (seq_next (still_rule (own_rule IDENTIFIER identifier_tree ⊥)) (seq_next (word IMPLEMENTS) (seq_next (still_rule (own_rule IDENTIFIER identifier_tree ⊥)) (seq_last (word SEMI_COLON)))))) IMPLEMENTS_DEFINITION refl refl

-- the parts give what the rule gives
pub implements_definition_got : {s rest : List ℕ} (x : ImplementsDefinition) → Got implements_definition_parts s (x.attributes, (x.lhs_identifier, (x.includes, (x.rhs_identifier, x.semi_colon)))) rest → Got (own IMPLEMENTS_DEFINITION implements_definition_tree (Unit {0})) s x rest
implements_definition_got x h = got_rule implements_definition_rule implements_definition_tree x h refl

-- a fault of the parts is one of the rule
pub implements_definition_fault : {s : List ℕ} {e : Fault (Error (Bor (List ℕ)))} → Faults implements_definition_parts s e → Faults (own IMPLEMENTS_DEFINITION implements_definition_tree (Unit {0})) s e
implements_definition_fault h = fault_rule implements_definition_rule implements_definition_tree h

-- what the search for the proof of its `parse` uses
pub ruleset includes_statement_definition_steps = (includes_statement_definition_got, includes_statement_definition_fault)

-- what the search for the proof of its `parse` uses
pub ruleset implements_definition_steps = (implements_definition_got, implements_definition_fault)

-- Callbacks. Written by tools/idl_proofs.py, and not edited by hand.
use Rattle.std.proofs.Common.{refl}
use Rattle.std.specs.Borrow.{Bor}
use Rattle.std.specs.Prelude.{ℕ, List, [], ◌∷◌}
use Rattle.weedle_base.proofs.RuleFacts.{fault_rule, got_rule, mark, own_rule, seq_last, seq_next, seq_rule, still_rule}
use Rattle.weedle_base.specs.Generic.{pair_reading}
use Rattle.weedle_base.specs.Own.{own}
use Rattle.weedle_base.specs.Reading.{Faults, Got, Reading}
use Rattle.weedle_base.specs.Rules.{IsRule}
use Rattle.weedle_base.specs.declared.fault.Err.{Err as Fault}
use Rattle.weedle_base.specs.declared.fault.Error.{Error}
use Rattle.weedle_base.specs.declared.term.written.definition_keywords.Callback.{Callback}
use Rattle.weedle_base.specs.declared.term.written.symbols.Assign.{Assign}
use Rattle.weedle_base.specs.declared.term.written.symbols.SemiColon.{SemiColon}
use Rattle.weedle_grammar.specs.Trees.{Mark, Node, trees}
use Rattle.weedle_grammar.specs.written.Table.Definitions.{CALLBACK_DEFINITION}
use Rattle.weedle_grammar.specs.written.Table.Keywords.{CALLBACK}
use Rattle.weedle_grammar.specs.written.Table.Leaves.{IDENTIFIER}
use Rattle.weedle_grammar.specs.written.Table.Symbols.{ASSIGN, SEMI_COLON}
use Rattle.weedle_grammar.specs.written.Table.Types.{PARENTHESIZED_ARGUMENT_LIST, RETURN_TYPE}
use Rattle.weedle_parts.specs.ValueTrees.{identifier_tree}
use Rattle.weedle_parts.specs.declared.common.identifier.Identifier.{Identifier}
use Rattle.weedle_statements.specs.declared.callback.CallbackDefinition.{CallbackDefinition}
use Rattle.weedle_statements.specs.written.Trees.{callback_definition_tree}
use Rattle.weedle_types.proofs.SharedRules.{attributes_reading, attributes_rule, word}
use Rattle.weedle_types.specs.PartTrees.{Attributes}
use Rattle.weedle_types.specs.Trees.{arguments_tree, attributes_tree, return_type_tree}
use Rattle.weedle_types.specs.declared.argument.ParenthesizedArgumentList.{ParenthesizedArgumentList}
use Rattle.weedle_types.specs.declared.formers.ReturnType.{ReturnType}
use Rattle.weedle_types.specs.declared.types.«Type».{«Type»}

-- a callback
abbrev callback_definition_parts : Reading (Attributes × (Callback × (Identifier × (Assign × ((ReturnType «Type») × (ParenthesizedArgumentList × SemiColon))))))
callback_definition_parts = pair_reading attributes_reading (pair_reading (mark CALLBACK) (pair_reading (own IDENTIFIER identifier_tree ⊥) (pair_reading (mark ASSIGN) (pair_reading (own RETURN_TYPE return_type_tree (Unit {0})) (pair_reading (own PARENTHESIZED_ARGUMENT_LIST arguments_tree (Unit {0})) (mark SEMI_COLON))))))

callback_definition_rule : IsRule callback_definition_parts CALLBACK_DEFINITION (λ x. Node (trees (attributes_tree x.0 ∷ Mark ∷ identifier_tree x.1.1.0 ∷ Mark ∷ return_type_tree x.1.1.1.1.0 ∷ arguments_tree x.1.1.1.1.1.0 ∷ Mark ∷ []))) (Unit {0})
callback_definition_rule = seq_rule (seq_next attributes_rule (seq_next (word CALLBACK) (seq_next (still_rule (own_rule IDENTIFIER identifier_tree ⊥)) (seq_next (word ASSIGN) (seq_next (own_rule RETURN_TYPE return_type_tree (Unit {0})) (seq_next (own_rule PARENTHESIZED_ARGUMENT_LIST arguments_tree (Unit {0})) (seq_last (word SEMI_COLON)))))))) CALLBACK_DEFINITION refl refl

-- the parts give what the rule gives
pub callback_definition_got : {s rest : List ℕ} (x : CallbackDefinition) → Got callback_definition_parts s (x.attributes, (x.callback, (x.identifier, (x.assign, (x.return_type, (x.arguments, x.semi_colon)))))) rest → Got (own CALLBACK_DEFINITION callback_definition_tree (Unit {0})) s x rest
callback_definition_got x h = got_rule callback_definition_rule callback_definition_tree x h refl

-- a fault of the parts is one of the rule
pub callback_definition_fault : {s : List ℕ} {e : Fault (Error (Bor (List ℕ)))} → Faults callback_definition_parts s e → Faults (own CALLBACK_DEFINITION callback_definition_tree (Unit {0})) s e
callback_definition_fault h = fault_rule callback_definition_rule callback_definition_tree h

-- what the search for the proof of its `parse` uses
pub ruleset callback_definition_steps = (callback_definition_got, callback_definition_fault)

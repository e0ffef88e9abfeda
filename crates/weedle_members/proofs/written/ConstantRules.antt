-- Constants. Written by tools/idl_proofs.py, and not edited by hand.
use Rattle.std.proofs.Common.{refl}
use Rattle.std.specs.Borrow.{Bor}
use Rattle.std.specs.Prelude.{ℕ, List, [], ◌∷◌}
use Rattle.weedle_base.proofs.RuleFacts.{fault_rule, got_rule, mark, own_rule, seq_last, seq_next, seq_rule, still_rule}
use Rattle.weedle_base.specs.Generic.{pair_reading}
use Rattle.weedle_base.specs.Own.{own}
use Rattle.weedle_base.specs.Reading.{Faults, Got, Reading}
use Rattle.weedle_base.specs.Rules.{IsRule}
use Rattle.weedle_base.specs.declared.fault.Err.{Err as Fault}
use Rattle.weedle_base.specs.declared.fault.Error.{Error}
use Rattle.weedle_base.specs.declared.term.written.definition_keywords.Const.{Const}
use Rattle.weedle_base.specs.declared.term.written.symbols.Assign.{Assign}
use Rattle.weedle_base.specs.declared.term.written.symbols.SemiColon.{SemiColon}
use Rattle.weedle_grammar.specs.Trees.{Mark, Node, trees}
use Rattle.weedle_grammar.specs.written.Table.InterfaceMembers.{CONST_MEMBER}
use Rattle.weedle_grammar.specs.written.Table.Keywords.{CONST}
use Rattle.weedle_grammar.specs.written.Table.Leaves.{IDENTIFIER}
use Rattle.weedle_grammar.specs.written.Table.Literals.{CONST_VALUE}
use Rattle.weedle_grammar.specs.written.Table.SimpleTypes.{CONST_TYPE}
use Rattle.weedle_grammar.specs.written.Table.Symbols.{ASSIGN, SEMI_COLON}
use Rattle.weedle_members.specs.declared.constant.ConstMember.{ConstMember}
use Rattle.weedle_members.specs.written.Trees.{const_member_tree}
use Rattle.weedle_parts.specs.LiteralTrees.{const_value_tree}
use Rattle.weedle_parts.specs.ValueTrees.{const_type_tree, identifier_tree}
use Rattle.weedle_parts.specs.declared.common.identifier.Identifier.{Identifier}
use Rattle.weedle_parts.specs.declared.literal.value.ConstValue.{ConstValue}
use Rattle.weedle_parts.specs.declared.types.const_type.ConstType.{ConstType}
use Rattle.weedle_types.proofs.SharedRules.{attributes_reading, attributes_rule, word}
use Rattle.weedle_types.specs.PartTrees.{Attributes}
use Rattle.weedle_types.specs.Trees.{attributes_tree}

-- a constant
abbrev const_member_parts : Reading (Attributes × (Const × (ConstType × (Identifier × (Assign × (ConstValue × SemiColon))))))
const_member_parts = pair_reading attributes_reading (pair_reading (mark CONST) (pair_reading (own CONST_TYPE const_type_tree ⊥) (pair_reading (own IDENTIFIER identifier_tree ⊥) (pair_reading (mark ASSIGN) (pair_reading (own CONST_VALUE const_value_tree ⊥) (mark SEMI_COLON))))))

const_member_rule : IsRule const_member_parts CONST_MEMBER (λ x. Node (trees (attributes_tree x.0 ∷ Mark ∷ const_type_tree x.1.1.0 ∷ identifier_tree x.1.1.1.0 ∷ Mark ∷ const_value_tree x.1.1.1.1.1.0 ∷ Mark ∷ []))) (Unit {0})
const_member_rule = seq_rule (seq_next attributes_rule (seq_next (word CONST) (seq_next (still_rule (own_rule CONST_TYPE const_type_tree ⊥)) (seq_next (still_rule (own_rule IDENTIFIER identifier_tree ⊥)) (seq_next (word ASSIGN) (seq_next (still_rule (own_rule CONST_VALUE const_value_tree ⊥)) (seq_last (word SEMI_COLON)))))))) CONST_MEMBER refl refl

-- the parts give what the rule gives
pub const_member_got : {s rest : List ℕ} (x : ConstMember) → Got const_member_parts s (x.attributes, (x.const_, (x.const_type, (x.identifier, (x.assign, (x.const_value, x.semi_colon)))))) rest → Got (own CONST_MEMBER const_member_tree (Unit {0})) s x rest
const_member_got x h = got_rule const_member_rule const_member_tree x h refl

-- a fault of the parts is one of the rule
pub const_member_fault : {s : List ℕ} {e : Fault (Error (Bor (List ℕ)))} → Faults const_member_parts s e → Faults (own CONST_MEMBER const_member_tree (Unit {0})) s e
const_member_fault h = fault_rule const_member_rule const_member_tree h

-- what the search for the proof of its `parse` uses
pub ruleset const_member_steps = (const_member_got, const_member_fault)

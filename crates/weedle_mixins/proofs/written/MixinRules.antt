-- Members of mixins. Written by tools/idl_proofs.py, and not edited by hand.
use Rattle.std.proofs.Common.{refl}
use Rattle.std.specs.Borrow.{Bor}
use Rattle.std.specs.Prelude.{ℕ, List, [], ◌∷◌, Option}
use Rattle.weedle_base.proofs.ChoiceFacts.{choice_tree, first_last, first_more, first_rule}
use Rattle.weedle_base.proofs.ChoiceSteps.{first_seen}
use Rattle.weedle_base.proofs.RuleFacts.{fault_rule, got_rule, mark, mark_rule, own_rule, seq_last, seq_next, seq_rule, still_rule}
use Rattle.weedle_base.specs.Choices.{choice_view}
use Rattle.weedle_base.specs.Generic.{choice_reading, option_reading, pair_reading, seen_reading}
use Rattle.weedle_base.specs.Own.{own}
use Rattle.weedle_base.specs.Reading.{Faults, Got, Reading}
use Rattle.weedle_base.specs.Rules.{IsRule, mark_tree, option_tree}
use Rattle.weedle_base.specs.declared.choice.Choice.TheVariants.{First, Second}
use Rattle.weedle_base.specs.declared.choice.Choice.{Choice}
use Rattle.weedle_base.specs.declared.fault.Err.{Err as Fault}
use Rattle.weedle_base.specs.declared.fault.Error.{Error}
use Rattle.weedle_base.specs.declared.term.written.definition_keywords.Attribute.{Attribute}
use Rattle.weedle_base.specs.declared.term.written.definition_keywords.ReadOnly.{ReadOnly}
use Rattle.weedle_base.specs.declared.term.written.definition_keywords.Stringifier.{Stringifier}
use Rattle.weedle_base.specs.declared.term.written.symbols.SemiColon.{SemiColon}
use Rattle.weedle_grammar.specs.Trees.{Alt, Mark, Node, trees}
use Rattle.weedle_grammar.specs.written.Table.InterfaceMembers.{CONST_MEMBER, OPT_IDENTIFIER, OPT_READ_ONLY, STRINGIFIER_MEMBER}
use Rattle.weedle_grammar.specs.written.Table.Keywords.{ATTRIBUTE, READ_ONLY, STRINGIFIER}
use Rattle.weedle_grammar.specs.written.Table.Leaves.{IDENTIFIER}
use Rattle.weedle_grammar.specs.written.Table.OtherMembers.{ATTRIBUTE_MIXIN_MEMBER, MIXIN_MEMBER, OPERATION_MIXIN_MEMBER, OPT_STRINGIFIER}
use Rattle.weedle_grammar.specs.written.Table.Symbols.{SEMI_COLON}
use Rattle.weedle_grammar.specs.written.Table.Types.{ATTRIBUTED_TYPE, PARENTHESIZED_ARGUMENT_LIST, RETURN_TYPE}
use Rattle.weedle_members.specs.declared.constant.ConstMember.{ConstMember}
use Rattle.weedle_members.specs.declared.stringifier.StringifierMember.{StringifierMember}
use Rattle.weedle_members.specs.written.Trees.{const_member_tree, stringifier_member_tree}
use Rattle.weedle_mixins.specs.declared.mixin.AttributeMixinMember.{AttributeMixinMember}
use Rattle.weedle_mixins.specs.declared.mixin.MixinMember.TheVariants.{Const as IsConst, Operation as IsOperation, Attribute as IsAttribute, Stringifier as IsStringifier}
use Rattle.weedle_mixins.specs.declared.mixin.MixinMember.{MixinMember}
use Rattle.weedle_mixins.specs.declared.mixin.OperationMixinMember.{OperationMixinMember}
use Rattle.weedle_mixins.specs.written.Trees.{attribute_mixin_member_tree, mixin_member_tree, operation_mixin_member_tree}
use Rattle.weedle_parts.specs.ValueTrees.{identifier_tree}
use Rattle.weedle_parts.specs.declared.common.identifier.Identifier.{Identifier}
use Rattle.weedle_types.proofs.SharedRules.{attributes_reading, attributes_rule, perhaps, word}
use Rattle.weedle_types.specs.PartTrees.{Attributes}
use Rattle.weedle_types.specs.Trees.{arguments_tree, attributed_type_tree, attributes_tree, return_type_tree}
use Rattle.weedle_types.specs.declared.argument.ParenthesizedArgumentList.{ParenthesizedArgumentList}
use Rattle.weedle_types.specs.declared.formers.ReturnType.{ReturnType}
use Rattle.weedle_types.specs.declared.types.AttributedType.{AttributedType}
use Rattle.weedle_types.specs.declared.types.«Type».{«Type»}

-- an operation
abbrev operation_mixin_member_parts : Reading (Attributes × ((Option Stringifier) × ((ReturnType «Type») × ((Option Identifier) × (ParenthesizedArgumentList × SemiColon)))))
operation_mixin_member_parts = pair_reading attributes_reading (pair_reading (option_reading (mark STRINGIFIER)) (pair_reading (own RETURN_TYPE return_type_tree (Unit {0})) (pair_reading (option_reading (own IDENTIFIER identifier_tree ⊥)) (pair_reading (own PARENTHESIZED_ARGUMENT_LIST arguments_tree (Unit {0})) (mark SEMI_COLON)))))

operation_mixin_member_rule : IsRule operation_mixin_member_parts OPERATION_MIXIN_MEMBER (λ x. Node (trees (attributes_tree x.0 ∷ option_tree mark_tree x.1.0 ∷ return_type_tree x.1.1.0 ∷ option_tree identifier_tree x.1.1.1.0 ∷ arguments_tree x.1.1.1.1.0 ∷ Mark ∷ []))) (Unit {0})
operation_mixin_member_rule = seq_rule (seq_next attributes_rule (seq_next (perhaps (mark_rule STRINGIFIER) OPT_STRINGIFIER refl refl) (seq_next (own_rule RETURN_TYPE return_type_tree (Unit {0})) (seq_next (perhaps (own_rule IDENTIFIER identifier_tree ⊥) OPT_IDENTIFIER refl refl) (seq_next (own_rule PARENTHESIZED_ARGUMENT_LIST arguments_tree (Unit {0})) (seq_last (word SEMI_COLON))))))) OPERATION_MIXIN_MEMBER refl refl

-- the parts give what the rule gives
pub operation_mixin_member_got : {s rest : List ℕ} (x : OperationMixinMember) → Got operation_mixin_member_parts s (x.attributes, (x.stringifier, (x.return_type, (x.identifier, (x.args, x.semi_colon))))) rest → Got (own OPERATION_MIXIN_MEMBER operation_mixin_member_tree (Unit {0})) s x rest
operation_mixin_member_got x h = got_rule operation_mixin_member_rule operation_mixin_member_tree x h refl

-- a fault of the parts is one of the rule
pub operation_mixin_member_fault : {s : List ℕ} {e : Fault (Error (Bor (List ℕ)))} → Faults operation_mixin_member_parts s e → Faults (own OPERATION_MIXIN_MEMBER operation_mixin_member_tree (Unit {0})) s e
operation_mixin_member_fault h = fault_rule operation_mixin_member_rule operation_mixin_member_tree h

-- an attribute
abbrev attribute_mixin_member_parts : Reading (Attributes × ((Option Stringifier) × ((Option ReadOnly) × (Attribute × (AttributedType × (Identifier × SemiColon))))))
attribute_mixin_member_parts = pair_reading attributes_reading (pair_reading (option_reading (mark STRINGIFIER)) (pair_reading (option_reading (mark READ_ONLY)) (pair_reading (mark ATTRIBUTE) (pair_reading (own ATTRIBUTED_TYPE attributed_type_tree (Unit {0})) (pair_reading (own IDENTIFIER identifier_tree ⊥) (mark SEMI_COLON))))))

attribute_mixin_member_rule : IsRule attribute_mixin_member_parts ATTRIBUTE_MIXIN_MEMBER (λ x. Node (trees (attributes_tree x.0 ∷ option_tree mark_tree x.1.0 ∷ option_tree mark_tree x.1.1.0 ∷ Mark ∷ attributed_type_tree x.1.1.1.1.0 ∷ identifier_tree x.1.1.1.1.1.0 ∷ Mark ∷ []))) (Unit {0})
attribute_mixin_member_rule = seq_rule (seq_next attributes_rule (seq_next (perhaps (mark_rule STRINGIFIER) OPT_STRINGIFIER refl refl) (seq_next (perhaps (mark_rule READ_ONLY) OPT_READ_ONLY refl refl) (seq_next (word ATTRIBUTE) (seq_next (own_rule ATTRIBUTED_TYPE attributed_type_tree (Unit {0})) (seq_next (still_rule (own_rule IDENTIFIER identifier_tree ⊥)) (seq_last (word SEMI_COLON)))))))) ATTRIBUTE_MIXIN_MEMBER refl refl

-- the parts give what the rule gives
pub attribute_mixin_member_got : {s rest : List ℕ} (x : AttributeMixinMember) → Got attribute_mixin_member_parts s (x.attributes, (x.stringifier, (x.readonly, (x.attribute, (x.type_, (x.identifier, x.semi_colon)))))) rest → Got (own ATTRIBUTE_MIXIN_MEMBER attribute_mixin_member_tree (Unit {0})) s x rest
attribute_mixin_member_got x h = got_rule attribute_mixin_member_rule attribute_mixin_member_tree x h refl

-- a fault of the parts is one of the rule
pub attribute_mixin_member_fault : {s : List ℕ} {e : Fault (Error (Bor (List ℕ)))} → Faults attribute_mixin_member_parts s e → Faults (own ATTRIBUTE_MIXIN_MEMBER attribute_mixin_member_tree (Unit {0})) s e
attribute_mixin_member_fault h = fault_rule attribute_mixin_member_rule attribute_mixin_member_tree h

-- any of them
abbrev mixin_member_parts : Reading (Choice ConstMember (Choice OperationMixinMember (Choice AttributeMixinMember StringifierMember)))
mixin_member_parts = seen_reading choice_view (choice_reading (own CONST_MEMBER const_member_tree (Unit {0})) (seen_reading choice_view (choice_reading (own OPERATION_MIXIN_MEMBER operation_mixin_member_tree (Unit {0})) (seen_reading choice_view (choice_reading (own ATTRIBUTE_MIXIN_MEMBER attribute_mixin_member_tree (Unit {0})) (own STRINGIFIER_MEMBER stringifier_member_tree (Unit {0})))))))

-- which of the alternatives a value is
abbrev mixin_member_view : MixinMember → Choice ConstMember (Choice OperationMixinMember (Choice AttributeMixinMember StringifierMember))
mixin_member_view (IsConst v) = First v
mixin_member_view (IsOperation v) = Second (First v)
mixin_member_view (IsAttribute v) = Second (Second (First v))
mixin_member_view (IsStringifier v) = Second (Second (Second v))

mixin_member_rule : IsRule mixin_member_parts MIXIN_MEMBER (λ x. choice_tree (λ v. Alt 0 (const_member_tree v)) (λ x. choice_tree (λ v. Alt 1 (operation_mixin_member_tree v)) (λ x. choice_tree (λ v. Alt 2 (attribute_mixin_member_tree v)) (λ v. Alt 3 (stringifier_member_tree v)) (choice_view x)) (choice_view x)) (choice_view x)) (Unit {0})
mixin_member_rule = first_rule (first_seen choice_view (first_more 0 (own_rule CONST_MEMBER const_member_tree (Unit {0})) (first_seen choice_view (first_more 1 (own_rule OPERATION_MIXIN_MEMBER operation_mixin_member_tree (Unit {0})) (first_seen choice_view (first_more 2 (own_rule ATTRIBUTE_MIXIN_MEMBER attribute_mixin_member_tree (Unit {0})) (first_last 3 (own_rule STRINGIFIER_MEMBER stringifier_member_tree (Unit {0}))))))))) MIXIN_MEMBER refl refl

-- the parts give what the rule gives
pub mixin_member_got : {s rest : List ℕ} (x : MixinMember) → Got mixin_member_parts s (mixin_member_view x) rest → Got (own MIXIN_MEMBER mixin_member_tree (Unit {0})) s x rest
mixin_member_got (IsConst v) h = got_rule mixin_member_rule mixin_member_tree _ h refl
mixin_member_got (IsOperation v) h = got_rule mixin_member_rule mixin_member_tree _ h refl
mixin_member_got (IsAttribute v) h = got_rule mixin_member_rule mixin_member_tree _ h refl
mixin_member_got (IsStringifier v) h = got_rule mixin_member_rule mixin_member_tree _ h refl

-- a fault of the parts is one of the rule
pub mixin_member_fault : {s : List ℕ} {e : Fault (Error (Bor (List ℕ)))} → Faults mixin_member_parts s e → Faults (own MIXIN_MEMBER mixin_member_tree (Unit {0})) s e
mixin_member_fault h = fault_rule mixin_member_rule mixin_member_tree h

-- what the search for the proof of its `parse` uses
pub ruleset operation_mixin_member_steps = (operation_mixin_member_got, operation_mixin_member_fault)

-- what the search for the proof of its `parse` uses
pub ruleset attribute_mixin_member_steps = (attribute_mixin_member_got, attribute_mixin_member_fault)

-- what the search for the proof of its `parse` uses
pub ruleset mixin_member_steps = (mixin_member_got, mixin_member_fault)

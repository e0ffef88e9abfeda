-- The extended attributes that hold no other type, and their rules.
use Rattle.std.proofs.Common.{refl, inl, inr}
use Rattle.std.specs.Borrow.{Bor}
use Rattle.std.specs.Prelude.{ℕ, List, ◌⊎◌}
use Rattle.weedle_base.proofs.ChoiceFacts.{choice_tree, first_last, first_more, first_rule, choice_steps}
use Rattle.weedle_base.specs.Generic.{choice_reading, pair_reading}
use Rattle.weedle_base.proofs.RuleFacts.{own_rule, still_rule, seq_last, seq_next, seq_rule, got_rule, fault_rule, mark, mark_rule}
use Rattle.weedle_base.proofs.Steps.{part_steps}
use Rattle.weedle_base.specs.Own.{own}
use Rattle.weedle_base.specs.Reading.{Reading, Got, Faults}
use Rattle.weedle_base.specs.Rules.{IsRule}
use Rattle.weedle_base.specs.declared.fault.Err.{Err as Fault}
use Rattle.weedle_base.specs.declared.fault.Error.{Error}
use Rattle.weedle_base.specs.declared.term.written.symbols.Assign.{Assign}
use Rattle.weedle_base.specs.declared.term.written.symbols.Comma.{Comma}
use Rattle.weedle_parts.proofs.ListRules.{punctuated_rule}
use Rattle.weedle_parts.proofs.PartRules.{parenthesized_rule}
use Rattle.weedle_parts.specs.Brackets.{parenthesized_reading}
use Rattle.weedle_parts.specs.Lists.{punctuated_reading}
use Rattle.weedle_parts.specs.LiteralTrees.{string_tree}
use Rattle.weedle_parts.specs.ValueTrees.{identifier_tree, parenthesized_tree, punctuated_tree}
use Rattle.weedle_parts.specs.declared.common.brackets.Parenthesized.{Parenthesized}
use Rattle.weedle_parts.specs.declared.common.identifier.Identifier.{Identifier}
use Rattle.weedle_parts.specs.declared.common.punctuated.Punctuated.{Punctuated}
use Rattle.weedle_parts.specs.declared.literal.string.StringLit.{StringLit}
use Rattle.weedle_grammar.specs.written.Table.Leaves.{IDENTIFIER, STRING_LIT}
use Rattle.weedle_grammar.specs.written.Table.SimpleTypes.{TAIL_IDENTIFIER_COMMA, IDENTIFIER_LIST, PARENTHESIZED_IDENTIFIER_LIST}
use Rattle.weedle_grammar.specs.written.Table.Symbols.{ASSIGN, COMMA}
use Rattle.weedle_grammar.specs.written.Table.Types.{IDENTIFIER_OR_STRING, EXTENDED_ATTRIBUTE_IDENT, EXTENDED_ATTRIBUTE_IDENT_LIST, EXTENDED_ATTRIBUTE_NO_ARGS}
use Rattle.weedle_grammar.specs.Trees.{Alt}
use Rattle.weedle_types.specs.Trees.{identifier_or_string_tree, extended_attribute_ident_tree, extended_attribute_no_args_tree, extended_attribute_ident_list_tree}
use Rattle.weedle_types.specs.declared.attribute.ExtendedAttributeIdent.{ExtendedAttributeIdent}
use Rattle.weedle_types.specs.declared.attribute.ExtendedAttributeIdentList.{ExtendedAttributeIdentList}
use Rattle.weedle_types.specs.declared.attribute.ExtendedAttributeNoArgs.{ExtendedAttributeNoArgs}
use Rattle.weedle_types.specs.declared.attribute.IdentifierOrString.TheVariants.{Identifier as Named, String as Quoted}
use Rattle.weedle_types.specs.declared.attribute.IdentifierOrString.{IdentifierOrString}

-- a name or a string
abbrev identifier_or_string_parts : Reading (Identifier ⊎ StringLit)
identifier_or_string_parts = choice_reading (own IDENTIFIER identifier_tree ⊥) (own STRING_LIT string_tree ⊥)

abbrev identifier_or_string_view : IdentifierOrString → Identifier ⊎ StringLit
identifier_or_string_view (Named v) = inl v
identifier_or_string_view (Quoted v) = inr v

identifier_or_string_rule : IsRule identifier_or_string_parts IDENTIFIER_OR_STRING (choice_tree (λ v. Alt 0 (identifier_tree v)) (λ v. Alt 1 (string_tree v))) ⊥
identifier_or_string_rule = first_rule (first_more 0 (own_rule IDENTIFIER identifier_tree ⊥) (first_last 1 (own_rule STRING_LIT string_tree ⊥))) IDENTIFIER_OR_STRING refl refl

pub identifier_or_string_got : {s rest : List ℕ} (x : IdentifierOrString) → Got identifier_or_string_parts s (identifier_or_string_view x) rest → Got (own IDENTIFIER_OR_STRING identifier_or_string_tree ⊥) s x rest
identifier_or_string_got (Named v) h = got_rule identifier_or_string_rule identifier_or_string_tree _ h refl
identifier_or_string_got (Quoted v) h = got_rule identifier_or_string_rule identifier_or_string_tree _ h refl

pub identifier_or_string_fault : {s : List ℕ} {e : Fault (Error (Bor (List ℕ)))} → Faults identifier_or_string_parts s e → Faults (own IDENTIFIER_OR_STRING identifier_or_string_tree ⊥) s e
identifier_or_string_fault h = fault_rule identifier_or_string_rule identifier_or_string_tree h

-- a name with another, or with a string
abbrev extended_attribute_ident_parts : Reading (Identifier × (Assign × IdentifierOrString))
extended_attribute_ident_parts = pair_reading (own IDENTIFIER identifier_tree ⊥) (pair_reading (mark ASSIGN) (own IDENTIFIER_OR_STRING identifier_or_string_tree ⊥))

pub extended_attribute_ident_got : {s rest : List ℕ} (x : ExtendedAttributeIdent) → Got extended_attribute_ident_parts s (x.lhs_identifier, (x.assign, x.rhs)) rest → Got (own EXTENDED_ATTRIBUTE_IDENT extended_attribute_ident_tree ⊥) s x rest
extended_attribute_ident_got x h = got_rule (seq_rule (seq_next (own_rule IDENTIFIER identifier_tree ⊥) (seq_next (mark_rule ASSIGN) (seq_last (own_rule IDENTIFIER_OR_STRING identifier_or_string_tree ⊥)))) EXTENDED_ATTRIBUTE_IDENT refl refl) extended_attribute_ident_tree x h refl

pub extended_attribute_ident_fault : {s : List ℕ} {e : Fault (Error (Bor (List ℕ)))} → Faults extended_attribute_ident_parts s e → Faults (own EXTENDED_ATTRIBUTE_IDENT extended_attribute_ident_tree ⊥) s e
extended_attribute_ident_fault h = fault_rule (seq_rule (seq_next (own_rule IDENTIFIER identifier_tree ⊥) (seq_next (mark_rule ASSIGN) (seq_last (own_rule IDENTIFIER_OR_STRING identifier_or_string_tree ⊥)))) EXTENDED_ATTRIBUTE_IDENT refl refl) extended_attribute_ident_tree h

-- a name alone
pub extended_attribute_no_args_got : {s rest : List ℕ} (x : ExtendedAttributeNoArgs) → Got (own IDENTIFIER identifier_tree ⊥) s x.0 rest → Got (own EXTENDED_ATTRIBUTE_NO_ARGS extended_attribute_no_args_tree ⊥) s x rest
extended_attribute_no_args_got x h = got_rule (seq_rule (seq_last (own_rule IDENTIFIER identifier_tree ⊥)) EXTENDED_ATTRIBUTE_NO_ARGS refl refl) extended_attribute_no_args_tree x h refl

pub extended_attribute_no_args_fault : {s : List ℕ} {e : Fault (Error (Bor (List ℕ)))} → Faults (own IDENTIFIER identifier_tree ⊥) s e → Faults (own EXTENDED_ATTRIBUTE_NO_ARGS extended_attribute_no_args_tree ⊥) s e
extended_attribute_no_args_fault h = fault_rule (seq_rule (seq_last (own_rule IDENTIFIER identifier_tree ⊥)) EXTENDED_ATTRIBUTE_NO_ARGS refl refl) extended_attribute_no_args_tree h

-- a name with others. `known` is what is known of the list's separator
module _ (known : Punctuated Identifier Comma → Type 0) where
  abbrev pub names_reading : Reading (Parenthesized (Punctuated Identifier Comma))
  names_reading = parenthesized_reading (punctuated_reading (own IDENTIFIER identifier_tree ⊥) (mark {V = Comma} COMMA) (λ p. p.list.items) known)

  pub names_rule : IsRule names_reading PARENTHESIZED_IDENTIFIER_LIST (parenthesized_tree (punctuated_tree identifier_tree)) (Unit {0})
  names_rule = parenthesized_rule (punctuated_rule (still_rule (own_rule IDENTIFIER identifier_tree ⊥)) (still_rule (mark_rule COMMA)) TAIL_IDENTIFIER_COMMA refl refl (λ p. p.list.items) known IDENTIFIER_LIST refl refl tt) PARENTHESIZED_IDENTIFIER_LIST refl refl

  abbrev pub extended_attribute_ident_list_parts : Reading (Identifier × (Assign × Parenthesized (Punctuated Identifier Comma)))
  extended_attribute_ident_list_parts = pair_reading (own IDENTIFIER identifier_tree ⊥) (pair_reading (mark ASSIGN) names_reading)

module _ (known : Punctuated Identifier Comma → Type 0) where
  pub extended_attribute_ident_list_got : {s rest : List ℕ} (x : ExtendedAttributeIdentList) → Got (extended_attribute_ident_list_parts known) s (x.identifier, (x.assign, x.list)) rest → Got (own EXTENDED_ATTRIBUTE_IDENT_LIST extended_attribute_ident_list_tree (Unit {0})) s x rest
  extended_attribute_ident_list_got x h = got_rule (seq_rule (seq_next (still_rule (own_rule IDENTIFIER identifier_tree ⊥)) (seq_next (still_rule (mark_rule ASSIGN)) (seq_last (names_rule known)))) EXTENDED_ATTRIBUTE_IDENT_LIST refl refl) extended_attribute_ident_list_tree x h refl

  pub extended_attribute_ident_list_fault : {s : List ℕ} {e : Fault (Error (Bor (List ℕ)))} → Faults (extended_attribute_ident_list_parts known) s e → Faults (own EXTENDED_ATTRIBUTE_IDENT_LIST extended_attribute_ident_list_tree (Unit {0})) s e
  extended_attribute_ident_list_fault h = fault_rule (seq_rule (seq_next (still_rule (own_rule IDENTIFIER identifier_tree ⊥)) (seq_next (still_rule (mark_rule ASSIGN)) (seq_last (names_rule known)))) EXTENDED_ATTRIBUTE_IDENT_LIST refl refl) extended_attribute_ident_list_tree h

pub ruleset identifier_or_string_steps = (choice_steps, identifier_or_string_got, identifier_or_string_fault)

pub ruleset extended_attribute_ident_steps = (part_steps, extended_attribute_ident_got, extended_attribute_ident_fault)

pub ruleset extended_attribute_no_args_steps = (extended_attribute_no_args_got, extended_attribute_no_args_fault)

pub ruleset extended_attribute_ident_list_steps = (part_steps, extended_attribute_ident_list_got, extended_attribute_ident_list_fault)

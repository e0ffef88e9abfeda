-- What the names for lists and brackets read is what their rules read. `known` is what is known of a list's separator.
use Rattle.std.proofs.Common.{inl, inr, refl}
use Rattle.weedle_base.proofs.RuleFacts.{mark, mark_rule, option_rule, own_rule, still_rule, wider_rule}
use Rattle.weedle_base.specs.Generic.{option_reading, pair_reading, seen_reading}
use Rattle.weedle_base.specs.Own.{own}
use Rattle.weedle_base.specs.Reading.{Reading}
use Rattle.weedle_base.specs.Rules.{HasRule, IsRule}
use Rattle.weedle_base.specs.declared.term.written.symbols.Comma.{Comma}
use Rattle.weedle_base.specs.declared.term.written.type_keywords.Or.{Or}
use Rattle.weedle_parts.proofs.ListRules.{punctuated_rule}
use Rattle.weedle_parts.proofs.PartRules.{bracketed_rule, may_be_null_rule, parenthesized_rule}
use Rattle.weedle_parts.specs.Brackets.{bracketed_reading, parenthesized_reading}
use Rattle.weedle_parts.specs.Lists.{punctuated_reading}
use Rattle.weedle_parts.specs.MayBeNull.{may_be_null_reading}
use Rattle.weedle_parts.specs.ValueTrees.{identifier_tree, may_be_null_tree, parenthesized_tree, punctuated_tree}
use Rattle.weedle_parts.specs.declared.common.identifier.Identifier.{Identifier}
use Rattle.weedle_parts.specs.declared.common.punctuated.Punctuated.{Punctuated}
use Rattle.weedle_grammar.specs.written.Table.Keywords.{OR}
use Rattle.weedle_grammar.specs.written.Table.Leaves.{IDENTIFIER}
use Rattle.weedle_grammar.specs.written.Table.SimpleTypes.{IDENTIFIER_LIST, PARENTHESIZED_IDENTIFIER_LIST, TAIL_IDENTIFIER_COMMA}
use Rattle.weedle_grammar.specs.written.Table.Symbols.{COMMA}
use Rattle.weedle_grammar.specs.written.Table.Types.{ARGUMENT, ARGUMENT_LIST, EXTENDED_ATTRIBUTE, EXTENDED_ATTRIBUTE_LIST, LIST_EXTENDED_ATTRIBUTE_COMMA, LIST_UNION_MEMBER_TYPE_OR, MAY_BE_NULL_UNION_TYPE, OPT_EXTENDED_ATTRIBUTE_LIST, TAIL_ARGUMENT_COMMA, TAIL_EXTENDED_ATTRIBUTE_COMMA, TAIL_UNION_MEMBER_TYPE_OR, UNION_MEMBER_TYPE, UNION_TYPE}
use Rattle.weedle_types.specs.Trees.{argument_list_tree, argument_tree, attributes_tree, extended_attribute_list_tree, extended_attribute_tree, union_member_type_tree, union_type_tree}
use Rattle.weedle_types.specs.declared.argument.Argument.{Argument}
use Rattle.weedle_types.specs.declared.attribute.ExtendedAttribute.{ExtendedAttribute}
use Rattle.weedle_types.specs.declared.types.UnionMemberType.{UnionMemberType}

-- Unions.
module _ (known : Punctuated UnionMemberType Or → Type 0) where
  abbrev pub union_member_types_reading : Reading (Punctuated UnionMemberType Or)
  union_member_types_reading = punctuated_reading (own UNION_MEMBER_TYPE union_member_type_tree (Unit {0})) (mark {V = Or} OR) (λ p. p.list.items) known

  pub union_type_law : IsRule (parenthesized_reading union_member_types_reading) UNION_TYPE union_type_tree (Unit {0})
  union_type_law = parenthesized_rule (punctuated_rule (own_rule UNION_MEMBER_TYPE union_member_type_tree (Unit {0})) (still_rule (mark_rule OR)) TAIL_UNION_MEMBER_TYPE_OR refl refl (λ p. p.list.items) known LIST_UNION_MEMBER_TYPE_OR refl refl tt) UNION_TYPE refl refl

  pub nullable_union_type_law : IsRule (may_be_null_reading (parenthesized_reading union_member_types_reading)) MAY_BE_NULL_UNION_TYPE (may_be_null_tree union_type_tree) (Unit {0})
  nullable_union_type_law = may_be_null_rule union_type_law MAY_BE_NULL_UNION_TYPE refl refl

  pub union_type_has_rule : HasRule (parenthesized_reading union_member_types_reading) UNION_TYPE union_type_tree
  unfolding punctuated_reading pair_reading seen_reading
  union_type_has_rule = wider_rule (λ g. inr (inl g)) union_type_law

  pub nullable_union_type_has_rule : HasRule (may_be_null_reading (parenthesized_reading union_member_types_reading)) MAY_BE_NULL_UNION_TYPE (may_be_null_tree union_type_tree)
  unfolding punctuated_reading pair_reading seen_reading
  nullable_union_type_has_rule = wider_rule (λ g. inl (inr (inl g))) nullable_union_type_law

-- Extended attributes.
module _ (known : Punctuated ExtendedAttribute Comma → Type 0) where
  abbrev pub extended_attributes_reading : Reading (Punctuated ExtendedAttribute Comma)
  extended_attributes_reading = punctuated_reading (own EXTENDED_ATTRIBUTE extended_attribute_tree (Unit {0})) (mark {V = Comma} COMMA) (λ p. p.list.items) known

  pub extended_attribute_list_law : IsRule (bracketed_reading extended_attributes_reading) EXTENDED_ATTRIBUTE_LIST extended_attribute_list_tree (Unit {0})
  extended_attribute_list_law = bracketed_rule (punctuated_rule (own_rule EXTENDED_ATTRIBUTE extended_attribute_tree (Unit {0})) (still_rule (mark_rule COMMA)) TAIL_EXTENDED_ATTRIBUTE_COMMA refl refl (λ p. p.list.items) known LIST_EXTENDED_ATTRIBUTE_COMMA refl refl tt) EXTENDED_ATTRIBUTE_LIST refl refl

  pub attributes_law : IsRule (option_reading (bracketed_reading extended_attributes_reading)) OPT_EXTENDED_ATTRIBUTE_LIST attributes_tree (Unit {0})
  attributes_law = option_rule extended_attribute_list_law OPT_EXTENDED_ATTRIBUTE_LIST refl refl

  pub extended_attribute_list_has_rule : HasRule (bracketed_reading extended_attributes_reading) EXTENDED_ATTRIBUTE_LIST extended_attribute_list_tree
  unfolding punctuated_reading pair_reading seen_reading
  extended_attribute_list_has_rule = wider_rule (λ g. inr (inl g)) extended_attribute_list_law

  pub attributes_has_rule : HasRule (option_reading (bracketed_reading extended_attributes_reading)) OPT_EXTENDED_ATTRIBUTE_LIST attributes_tree
  unfolding punctuated_reading pair_reading seen_reading option_reading
  attributes_has_rule = wider_rule (λ g. inr (inl g)) attributes_law

-- Arguments.
module _ (known : Punctuated Argument Comma → Type 0) where
  abbrev pub argument_list_reading : Reading (Punctuated Argument Comma)
  argument_list_reading = punctuated_reading (own ARGUMENT argument_tree (Unit {0})) (mark {V = Comma} COMMA) (λ p. p.list.items) known

  pub argument_list_law : IsRule argument_list_reading ARGUMENT_LIST argument_list_tree (Unit {0})
  argument_list_law = punctuated_rule (own_rule ARGUMENT argument_tree (Unit {0})) (still_rule (mark_rule COMMA)) TAIL_ARGUMENT_COMMA refl refl (λ p. p.list.items) known ARGUMENT_LIST refl refl tt

  pub argument_list_has_rule : HasRule argument_list_reading ARGUMENT_LIST argument_list_tree
  unfolding punctuated_reading
  argument_list_has_rule = argument_list_law

-- Names.
module _ (known : Punctuated Identifier Comma → Type 0) where
  abbrev pub identifier_list_reading : Reading (Punctuated Identifier Comma)
  identifier_list_reading = punctuated_reading (own IDENTIFIER identifier_tree ⊥) (mark {V = Comma} COMMA) (λ p. p.list.items) known

  pub identifier_list_law : IsRule identifier_list_reading IDENTIFIER_LIST (punctuated_tree identifier_tree) (Unit {0})
  identifier_list_law = punctuated_rule (still_rule (own_rule IDENTIFIER identifier_tree ⊥)) (still_rule (mark_rule COMMA)) TAIL_IDENTIFIER_COMMA refl refl (λ p. p.list.items) known IDENTIFIER_LIST refl refl tt

  pub identifiers_law : IsRule (parenthesized_reading identifier_list_reading) PARENTHESIZED_IDENTIFIER_LIST (parenthesized_tree (punctuated_tree identifier_tree)) (Unit {0})
  identifiers_law = parenthesized_rule identifier_list_law PARENTHESIZED_IDENTIFIER_LIST refl refl

  pub identifier_list_has_rule : HasRule identifier_list_reading IDENTIFIER_LIST (punctuated_tree identifier_tree)
  unfolding punctuated_reading
  identifier_list_has_rule = identifier_list_law

  pub identifiers_has_rule : HasRule (parenthesized_reading identifier_list_reading) PARENTHESIZED_IDENTIFIER_LIST (parenthesized_tree (punctuated_tree identifier_tree))
  unfolding punctuated_reading pair_reading seen_reading
  identifiers_has_rule = wider_rule (λ g. inr (inl g)) identifiers_law

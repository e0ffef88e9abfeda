-- Each call reads a shorter text, or the same text by a rule of a smaller number.
use Rattle.std.specs.Prelude.{List, length, ◌*◌, ◌+◌, ◌∷◌, ◌≡◌, ◌≤◌}
use Rattle.weedle_base.proofs.Reached.{Reached}
use Rattle.weedle_base.proofs.RuleFacts.{mark}
use Rattle.weedle_base.specs.Own.{own}
use Rattle.weedle_base.specs.declared.term.written.symbols.Comma.{Comma}
use Rattle.weedle_base.specs.declared.term.written.type_keywords.Or.{Or}
use Rattle.weedle_grammar.specs.written.Bound.{rule_count}
use Rattle.weedle_grammar.specs.written.Table.Keywords.{OR}
use Rattle.weedle_grammar.specs.written.Table.Symbols.{COMMA}
use Rattle.weedle_grammar.specs.written.Table.Types.{ARGUMENT, ARGUMENT_LIST, ATTRIBUTED_NON_ANY_TYPE, ATTRIBUTED_TYPE, EXTENDED_ATTRIBUTE, EXTENDED_ATTRIBUTE_ARG_LIST, EXTENDED_ATTRIBUTE_LIST, EXTENDED_ATTRIBUTE_NAMED_ARG_LIST, FROZEN_ARRAY_TYPE, GENERICS_RECORD_TYPES, GENERICS_RETURN_TYPE, GENERICS_TYPE, LIST_EXTENDED_ATTRIBUTE_COMMA, LIST_UNION_MEMBER_TYPE_OR, MAY_BE_NULL_FROZEN_ARRAY_TYPE, MAY_BE_NULL_RECORD_TYPE, MAY_BE_NULL_SEQUENCE_TYPE, MAY_BE_NULL_UNION_TYPE, NON_ANY_TYPE, OPT_EXTENDED_ATTRIBUTE_LIST, PARENTHESIZED_ARGUMENT_LIST, PROMISE_TYPE, RECORD_KEY_TYPE, RECORD_TYPE, RECORD_TYPES, RETURN_TYPE, SEQUENCE_TYPE, SINGLE_ARGUMENT, SINGLE_TYPE, TAIL_ARGUMENT_COMMA, TAIL_EXTENDED_ATTRIBUTE_COMMA, TAIL_UNION_MEMBER_TYPE_OR, TYPE, UNION_MEMBER_TYPE, UNION_TYPE, VARIADIC_ARGUMENT}
use Rattle.weedle_parts.specs.Lists.{next_step}
use Rattle.weedle_types.proofs.reading.+group.Given as goal
use Rattle.weedle_types.specs.Trees.{argument_tree, extended_attribute_tree, union_member_type_tree}
use Rattle.weedle_types.specs.declared.argument.Argument.{Argument}
use Rattle.weedle_types.specs.declared.attribute.ExtendedAttribute.{ExtendedAttribute}
use Rattle.weedle_types.specs.declared.types.UnionMemberType.{UnionMemberType}
use denote.Shadow.{shadow}
use denote.Text.{Utf8}

abbrev pub decreases-types::type_ : goal.decreases-types::type_
decreases-types::type_ l = length l.input.now * rule_count + TYPE

abbrev pub decreases-types::single_type : goal.decreases-types::single_type
decreases-types::single_type l = length l.input.now * rule_count + SINGLE_TYPE

abbrev pub decreases-types::non_any_type : goal.decreases-types::non_any_type
decreases-types::non_any_type l = length l.input.now * rule_count + NON_ANY_TYPE

abbrev pub decreases-types::record_key_type : goal.decreases-types::record_key_type
decreases-types::record_key_type l = length l.input.now * rule_count + RECORD_KEY_TYPE

abbrev pub decreases-types::return_type : goal.decreases-types::return_type
decreases-types::return_type l = length l.input.now * rule_count + RETURN_TYPE

abbrev pub decreases-types::attributed_type : goal.decreases-types::attributed_type
decreases-types::attributed_type l = length l.input.now * rule_count + ATTRIBUTED_TYPE

abbrev pub decreases-types::attributed_non_any_type : goal.decreases-types::attributed_non_any_type
decreases-types::attributed_non_any_type l = length l.input.now * rule_count + ATTRIBUTED_NON_ANY_TYPE

abbrev pub decreases-generic_types::sequence_type : goal.decreases-generic_types::sequence_type
decreases-generic_types::sequence_type l = length l.input.now * rule_count + SEQUENCE_TYPE

abbrev pub decreases-generic_types::frozen_array_type : goal.decreases-generic_types::frozen_array_type
decreases-generic_types::frozen_array_type l = length l.input.now * rule_count + FROZEN_ARRAY_TYPE

abbrev pub decreases-generic_types::promise_type : goal.decreases-generic_types::promise_type
decreases-generic_types::promise_type l = length l.input.now * rule_count + PROMISE_TYPE

abbrev pub decreases-generic_types::record_type : goal.decreases-generic_types::record_type
decreases-generic_types::record_type l = length l.input.now * rule_count + RECORD_TYPE

abbrev pub decreases-generic_types::nullable_sequence_type : goal.decreases-generic_types::nullable_sequence_type
decreases-generic_types::nullable_sequence_type l = length l.input.now * rule_count + MAY_BE_NULL_SEQUENCE_TYPE

abbrev pub decreases-generic_types::nullable_frozen_array_type : goal.decreases-generic_types::nullable_frozen_array_type
decreases-generic_types::nullable_frozen_array_type l = length l.input.now * rule_count + MAY_BE_NULL_FROZEN_ARRAY_TYPE

abbrev pub decreases-generic_types::nullable_record_type : goal.decreases-generic_types::nullable_record_type
decreases-generic_types::nullable_record_type l = length l.input.now * rule_count + MAY_BE_NULL_RECORD_TYPE

abbrev pub decreases-generic_types::generics_type : goal.decreases-generic_types::generics_type
decreases-generic_types::generics_type l = length l.input.now * rule_count + GENERICS_TYPE

abbrev pub decreases-generic_types::generics_return_type : goal.decreases-generic_types::generics_return_type
decreases-generic_types::generics_return_type l = length l.input.now * rule_count + GENERICS_RETURN_TYPE

abbrev pub decreases-generic_types::generics_record_types : goal.decreases-generic_types::generics_record_types
decreases-generic_types::generics_record_types l = length l.input.now * rule_count + GENERICS_RECORD_TYPES

abbrev pub decreases-generic_types::record_types : goal.decreases-generic_types::record_types
decreases-generic_types::record_types l = length l.input.now * rule_count + RECORD_TYPES

abbrev pub decreases-unions::union_type : goal.decreases-unions::union_type
decreases-unions::union_type l = length l.input.now * rule_count + UNION_TYPE

abbrev pub decreases-unions::nullable_union_type : goal.decreases-unions::nullable_union_type
decreases-unions::nullable_union_type l = length l.input.now * rule_count + MAY_BE_NULL_UNION_TYPE

abbrev pub decreases-unions::union_member_type : goal.decreases-unions::union_member_type
decreases-unions::union_member_type l = length l.input.now * rule_count + UNION_MEMBER_TYPE

abbrev pub decreases-unions::union_member_types : goal.decreases-unions::union_member_types
decreases-unions::union_member_types l = length l.input.now * rule_count + LIST_UNION_MEMBER_TYPE_OR

abbrev pub decreases-attributes::attributes : goal.decreases-attributes::attributes
decreases-attributes::attributes l = length l.input.now * rule_count + OPT_EXTENDED_ATTRIBUTE_LIST

abbrev pub decreases-attributes::extended_attribute_list : goal.decreases-attributes::extended_attribute_list
decreases-attributes::extended_attribute_list l = length l.input.now * rule_count + EXTENDED_ATTRIBUTE_LIST

abbrev pub decreases-attributes::extended_attribute : goal.decreases-attributes::extended_attribute
decreases-attributes::extended_attribute l = length l.input.now * rule_count + EXTENDED_ATTRIBUTE

abbrev pub decreases-attributes::extended_attribute_arg_list : goal.decreases-attributes::extended_attribute_arg_list
decreases-attributes::extended_attribute_arg_list l = length l.input.now * rule_count + EXTENDED_ATTRIBUTE_ARG_LIST

abbrev pub decreases-attributes::extended_attribute_named_arg_list : goal.decreases-attributes::extended_attribute_named_arg_list
decreases-attributes::extended_attribute_named_arg_list l = length l.input.now * rule_count + EXTENDED_ATTRIBUTE_NAMED_ARG_LIST

abbrev pub decreases-attributes::extended_attributes : goal.decreases-attributes::extended_attributes
decreases-attributes::extended_attributes l = length l.input.now * rule_count + LIST_EXTENDED_ATTRIBUTE_COMMA

abbrev pub decreases-arguments::argument : goal.decreases-arguments::argument
decreases-arguments::argument l = length l.input.now * rule_count + ARGUMENT

abbrev pub decreases-arguments::single_argument : goal.decreases-arguments::single_argument
decreases-arguments::single_argument l = length l.input.now * rule_count + SINGLE_ARGUMENT

abbrev pub decreases-arguments::variadic_argument : goal.decreases-arguments::variadic_argument
decreases-arguments::variadic_argument l = length l.input.now * rule_count + VARIADIC_ARGUMENT

abbrev pub decreases-arguments::arguments : goal.decreases-arguments::arguments
decreases-arguments::arguments l = length l.input.now * rule_count + PARENTHESIZED_ARGUMENT_LIST

abbrev pub decreases-arguments::argument_list : goal.decreases-arguments::argument_list
decreases-arguments::argument_list l = length l.input.now * rule_count + ARGUMENT_LIST

abbrev pub decreases-unions::more_union_member_types : goal.decreases-unions::more_union_member_types
decreases-unions::more_union_member_types l = length l.input.now * rule_count + TAIL_UNION_MEMBER_TYPE_OR

abbrev pub decreases-attributes::more_extended_attributes : goal.decreases-attributes::more_extended_attributes
decreases-attributes::more_extended_attributes l = length l.input.now * rule_count + TAIL_EXTENDED_ATTRIBUTE_COMMA

abbrev pub decreases-arguments::more_arguments : goal.decreases-arguments::more_arguments
decreases-arguments::more_arguments l = length l.input.now * rule_count + TAIL_ARGUMENT_COMMA

abbrev pub invariant-unions::more_union_member_types-items : goal.invariant-unions::more_union_member_types-items
invariant-unions::more_union_member_types-items l = shadow (Utf8 l.rest) × (length l.rest ≤ length l.input) × ((vs : List UnionMemberType) × (l.list.items ≡ l.fn.first ∷ vs) × Reached (next_step (own UNION_MEMBER_TYPE union_member_type_tree (Unit {0})) (mark {V = Or} OR)) l.input vs l.rest)

abbrev pub decreases-unions::more_union_member_types-items : goal.decreases-unions::more_union_member_types-items
decreases-unions::more_union_member_types-items l = length l.rest

abbrev pub invariant-attributes::more_extended_attributes-items : goal.invariant-attributes::more_extended_attributes-items
invariant-attributes::more_extended_attributes-items l = shadow (Utf8 l.rest) × (length l.rest ≤ length l.input) × ((vs : List ExtendedAttribute) × (l.list.items ≡ l.fn.first ∷ vs) × Reached (next_step (own EXTENDED_ATTRIBUTE extended_attribute_tree (Unit {0})) (mark {V = Comma} COMMA)) l.input vs l.rest)

abbrev pub decreases-attributes::more_extended_attributes-items : goal.decreases-attributes::more_extended_attributes-items
decreases-attributes::more_extended_attributes-items l = length l.rest

abbrev pub invariant-arguments::more_arguments-items : goal.invariant-arguments::more_arguments-items
invariant-arguments::more_arguments-items l = shadow (Utf8 l.rest) × (length l.rest ≤ length l.input) × ((vs : List Argument) × (l.list.items ≡ l.fn.first ∷ vs) × Reached (next_step (own ARGUMENT argument_tree (Unit {0})) (mark {V = Comma} COMMA)) l.input vs l.rest)

abbrev pub decreases-arguments::more_arguments-items : goal.decreases-arguments::more_arguments-items
decreases-arguments::more_arguments-items l = length l.rest

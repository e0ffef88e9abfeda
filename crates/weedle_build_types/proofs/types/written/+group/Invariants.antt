-- Each call builds from a later place, or from the same place by a rule of a smaller number.
use Rattle.std.proofs.Common.{ℕ, ◌+◌, ◌-◌, ◌*◌, length, map}
use Rattle.weedle_grammar.specs.written.Bound.{rule_count}
use Rattle.weedle_grammar.specs.written.Table.Keywords.{OR}
use Rattle.weedle_grammar.specs.written.Table.Symbols.{COMMA}
use Rattle.weedle_grammar.specs.written.Table.Types.{ARGUMENT, ARGUMENT_LIST, ATTRIBUTED_NON_ANY_TYPE, ATTRIBUTED_TYPE, EXTENDED_ATTRIBUTE, EXTENDED_ATTRIBUTE_ARG_LIST, EXTENDED_ATTRIBUTE_LIST, EXTENDED_ATTRIBUTE_NAMED_ARG_LIST, FROZEN_ARRAY_TYPE, GENERICS_RECORD_TYPES, GENERICS_RETURN_TYPE, GENERICS_TYPE, LIST_EXTENDED_ATTRIBUTE_COMMA, LIST_UNION_MEMBER_TYPE_OR, MAY_BE_NULL_FROZEN_ARRAY_TYPE, MAY_BE_NULL_RECORD_TYPE, MAY_BE_NULL_SEQUENCE_TYPE, MAY_BE_NULL_UNION_TYPE, NON_ANY_TYPE, OPT_EXTENDED_ATTRIBUTE_LIST, PARENTHESIZED_ARGUMENT_LIST, PROMISE_TYPE, RECORD_KEY_TYPE, RECORD_TYPE, RECORD_TYPES, RETURN_TYPE, SEQUENCE_TYPE, SINGLE_ARGUMENT, SINGLE_TYPE, TYPE, UNION_MEMBER_TYPE, UNION_TYPE, VARIADIC_ARGUMENT}
use Rattle.weedle_types.specs.Trees.{argument_tree, extended_attribute_tree, union_member_type_tree}
use Rattle.weedle_build_base.proofs.Separated.{Listing}
use Rattle.weedle_build_types.proofs.types.written.+group.Given as goal

abbrev pub decreases-arguments::argument : goal.decreases-arguments::argument
decreases-arguments::argument l = (length l.table.text.now - l.at.place) * rule_count + ARGUMENT

abbrev pub decreases-arguments::argument_list : goal.decreases-arguments::argument_list
decreases-arguments::argument_list l = (length l.table.text.now - l.at.place) * rule_count + ARGUMENT_LIST

abbrev pub decreases-arguments::arguments : goal.decreases-arguments::arguments
decreases-arguments::arguments l = (length l.table.text.now - l.at.place) * rule_count + PARENTHESIZED_ARGUMENT_LIST

abbrev pub decreases-arguments::single_argument : goal.decreases-arguments::single_argument
decreases-arguments::single_argument l = (length l.table.text.now - l.at.place) * rule_count + SINGLE_ARGUMENT

abbrev pub decreases-arguments::variadic_argument : goal.decreases-arguments::variadic_argument
decreases-arguments::variadic_argument l = (length l.table.text.now - l.at.place) * rule_count + VARIADIC_ARGUMENT

abbrev pub decreases-attributes::attributes : goal.decreases-attributes::attributes
decreases-attributes::attributes l = (length l.table.text.now - l.at.place) * rule_count + OPT_EXTENDED_ATTRIBUTE_LIST

abbrev pub decreases-attributes::extended_attribute : goal.decreases-attributes::extended_attribute
decreases-attributes::extended_attribute l = (length l.table.text.now - l.at.place) * rule_count + EXTENDED_ATTRIBUTE

abbrev pub decreases-attributes::extended_attribute_arg_list : goal.decreases-attributes::extended_attribute_arg_list
decreases-attributes::extended_attribute_arg_list l = (length l.table.text.now - l.at.place) * rule_count + EXTENDED_ATTRIBUTE_ARG_LIST

abbrev pub decreases-attributes::extended_attribute_list : goal.decreases-attributes::extended_attribute_list
decreases-attributes::extended_attribute_list l = (length l.table.text.now - l.at.place) * rule_count + EXTENDED_ATTRIBUTE_LIST

abbrev pub decreases-attributes::extended_attribute_named_arg_list : goal.decreases-attributes::extended_attribute_named_arg_list
decreases-attributes::extended_attribute_named_arg_list l = (length l.table.text.now - l.at.place) * rule_count + EXTENDED_ATTRIBUTE_NAMED_ARG_LIST

abbrev pub decreases-attributes::extended_attributes : goal.decreases-attributes::extended_attributes
decreases-attributes::extended_attributes l = (length l.table.text.now - l.at.place) * rule_count + LIST_EXTENDED_ATTRIBUTE_COMMA

abbrev pub decreases-generic_types::frozen_array_type : goal.decreases-generic_types::frozen_array_type
decreases-generic_types::frozen_array_type l = (length l.table.text.now - l.at.place) * rule_count + FROZEN_ARRAY_TYPE

abbrev pub decreases-generic_types::generics_record_types : goal.decreases-generic_types::generics_record_types
decreases-generic_types::generics_record_types l = (length l.table.text.now - l.at.place) * rule_count + GENERICS_RECORD_TYPES

abbrev pub decreases-generic_types::generics_return_type : goal.decreases-generic_types::generics_return_type
decreases-generic_types::generics_return_type l = (length l.table.text.now - l.at.place) * rule_count + GENERICS_RETURN_TYPE

abbrev pub decreases-generic_types::generics_type : goal.decreases-generic_types::generics_type
decreases-generic_types::generics_type l = (length l.table.text.now - l.at.place) * rule_count + GENERICS_TYPE

abbrev pub decreases-generic_types::nullable_frozen_array_type : goal.decreases-generic_types::nullable_frozen_array_type
decreases-generic_types::nullable_frozen_array_type l = (length l.table.text.now - l.at.place) * rule_count + MAY_BE_NULL_FROZEN_ARRAY_TYPE

abbrev pub decreases-generic_types::nullable_record_type : goal.decreases-generic_types::nullable_record_type
decreases-generic_types::nullable_record_type l = (length l.table.text.now - l.at.place) * rule_count + MAY_BE_NULL_RECORD_TYPE

abbrev pub decreases-generic_types::nullable_sequence_type : goal.decreases-generic_types::nullable_sequence_type
decreases-generic_types::nullable_sequence_type l = (length l.table.text.now - l.at.place) * rule_count + MAY_BE_NULL_SEQUENCE_TYPE

abbrev pub decreases-generic_types::promise_type : goal.decreases-generic_types::promise_type
decreases-generic_types::promise_type l = (length l.table.text.now - l.at.place) * rule_count + PROMISE_TYPE

abbrev pub decreases-generic_types::record_type : goal.decreases-generic_types::record_type
decreases-generic_types::record_type l = (length l.table.text.now - l.at.place) * rule_count + RECORD_TYPE

abbrev pub decreases-generic_types::record_types : goal.decreases-generic_types::record_types
decreases-generic_types::record_types l = (length l.table.text.now - l.at.place) * rule_count + RECORD_TYPES

abbrev pub decreases-generic_types::sequence_type : goal.decreases-generic_types::sequence_type
decreases-generic_types::sequence_type l = (length l.table.text.now - l.at.place) * rule_count + SEQUENCE_TYPE

abbrev pub decreases-kinds::attributed_non_any_type : goal.decreases-kinds::attributed_non_any_type
decreases-kinds::attributed_non_any_type l = (length l.table.text.now - l.at.place) * rule_count + ATTRIBUTED_NON_ANY_TYPE

abbrev pub decreases-kinds::attributed_type : goal.decreases-kinds::attributed_type
decreases-kinds::attributed_type l = (length l.table.text.now - l.at.place) * rule_count + ATTRIBUTED_TYPE

abbrev pub decreases-kinds::non_any_type : goal.decreases-kinds::non_any_type
decreases-kinds::non_any_type l = (length l.table.text.now - l.at.place) * rule_count + NON_ANY_TYPE

abbrev pub decreases-kinds::record_key_type : goal.decreases-kinds::record_key_type
decreases-kinds::record_key_type l = (length l.table.text.now - l.at.place) * rule_count + RECORD_KEY_TYPE

abbrev pub decreases-kinds::return_type : goal.decreases-kinds::return_type
decreases-kinds::return_type l = (length l.table.text.now - l.at.place) * rule_count + RETURN_TYPE

abbrev pub decreases-kinds::single_type : goal.decreases-kinds::single_type
decreases-kinds::single_type l = (length l.table.text.now - l.at.place) * rule_count + SINGLE_TYPE

abbrev pub decreases-kinds::type_ : goal.decreases-kinds::type_
decreases-kinds::type_ l = (length l.table.text.now - l.at.place) * rule_count + TYPE

abbrev pub decreases-unions::add_union_member_type : goal.decreases-unions::add_union_member_type
decreases-unions::add_union_member_type l = (length l.table.text.now - l.at.place) * rule_count + UNION_MEMBER_TYPE

abbrev pub decreases-unions::nullable_union_type : goal.decreases-unions::nullable_union_type
decreases-unions::nullable_union_type l = (length l.table.text.now - l.at.place) * rule_count + MAY_BE_NULL_UNION_TYPE

abbrev pub decreases-unions::union_member_types : goal.decreases-unions::union_member_types
decreases-unions::union_member_types l = (length l.table.text.now - l.at.place) * rule_count + LIST_UNION_MEMBER_TYPE_OR

abbrev pub decreases-unions::union_type : goal.decreases-unions::union_type
decreases-unions::union_type l = (length l.table.text.now - l.at.place) * rule_count + UNION_TYPE

abbrev pub invariant-unions::union_member_types-loop-behind : goal.invariant-unions::union_member_types-loop-behind
invariant-unions::union_member_types-loop-behind l = Listing l.fn.table.text.now UNION_MEMBER_TYPE OR l.fn.at.place l.fn.at.visits (map union_member_type_tree l.list.items) l.here.place l.here.visits

abbrev pub decreases-unions::union_member_types-loop-behind : goal.decreases-unions::union_member_types-loop-behind
decreases-unions::union_member_types-loop-behind l = length l.fn.table.text.now - l.here.place

abbrev pub invariant-attributes::extended_attributes-loop-behind : goal.invariant-attributes::extended_attributes-loop-behind
invariant-attributes::extended_attributes-loop-behind l = Listing l.fn.table.text.now EXTENDED_ATTRIBUTE COMMA l.fn.at.place l.fn.at.visits (map extended_attribute_tree l.list.items) l.here.place l.here.visits

abbrev pub decreases-attributes::extended_attributes-loop-behind : goal.decreases-attributes::extended_attributes-loop-behind
decreases-attributes::extended_attributes-loop-behind l = length l.fn.table.text.now - l.here.place

abbrev pub invariant-arguments::argument_list-loop-behind : goal.invariant-arguments::argument_list-loop-behind
invariant-arguments::argument_list-loop-behind l = Listing l.fn.table.text.now ARGUMENT COMMA l.fn.at.place l.fn.at.visits (map argument_tree l.list.items) l.here.place l.here.visits

abbrev pub decreases-arguments::argument_list-loop-behind : goal.decreases-arguments::argument_list-loop-behind
decreases-arguments::argument_list-loop-behind l = length l.fn.table.text.now - l.here.place

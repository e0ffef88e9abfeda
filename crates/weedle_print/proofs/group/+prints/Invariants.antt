-- What is written falls from call to call by the size of its tree, and each loop has put the items before.
use Rattle.std.proofs.Common.{map, codes, string_bytes}
use Rattle.std.specs.Prelude.{suc}
use Rattle.weedle_grammar.specs.Trees.{trees}
use Rattle.weedle_parts.specs.ValueTrees.{may_be_null_tree}
use Rattle.weedle_print.proofs.SeparatedFacts.{SeparatedSoFar}
use Rattle.weedle_spell.specs.Tokens.{word}
use Rattle.weedle_spell.specs.RecursiveTypes.{argument_spelling, extended_attribute_spelling, union_member_type_spelling}
use Rattle.weedle_types.specs.TreeSize.{tree_size, trees_size}
use Rattle.weedle_types.specs.Trees.{argument_tree, arguments_tree, attributed_non_any_type_tree, attributed_type_tree, attributes_tree, extended_attribute_arg_list_tree, extended_attribute_list_tree, extended_attribute_named_arg_list_tree, extended_attribute_tree, frozen_array_type_tree, non_any_type_tree, promise_type_tree, record_key_type_tree, record_type_tree, record_types_tree, return_type_tree, sequence_type_tree, single_argument_tree, single_type_tree, type_tree, union_member_type_tree, union_type_tree, variadic_argument_tree}
use Rattle.weedle_print.proofs.group.+prints.Given as goal

abbrev pub invariant-unions::push_members-loop-member : goal.invariant-unions::push_members-loop-member
invariant-unions::push_members-loop-member l = SeparatedSoFar union_member_type_spelling (word (codes "or")) l.members.items l.member-index l.is_first (string_bytes l.fn.out) (string_bytes l.out)

abbrev pub invariant-attributes::push_attributes-loop-attribute : goal.invariant-attributes::push_attributes-loop-attribute
invariant-attributes::push_attributes-loop-attribute l = SeparatedSoFar extended_attribute_spelling (word (codes ",")) l.attributes.items l.attribute-index l.is_first (string_bytes l.fn.out) (string_bytes l.out)

abbrev pub invariant-arguments::push_arguments-loop-argument : goal.invariant-arguments::push_arguments-loop-argument
invariant-arguments::push_arguments-loop-argument l = SeparatedSoFar argument_spelling (word (codes ",")) l.arguments.items l.argument-index l.is_first (string_bytes l.fn.out) (string_bytes l.out)

abbrev pub decreases-types::print_type : goal.decreases-types::print_type
decreases-types::print_type l = tree_size (type_tree l.type_.now)

abbrev pub decreases-types::print_single_type : goal.decreases-types::print_single_type
decreases-types::print_single_type l = tree_size (single_type_tree l.type_.now)

abbrev pub decreases-types::print_non_any_type : goal.decreases-types::print_non_any_type
decreases-types::print_non_any_type l = tree_size (non_any_type_tree l.type_.now)

abbrev pub decreases-types::print_record_key_type : goal.decreases-types::print_record_key_type
decreases-types::print_record_key_type l = tree_size (record_key_type_tree l.type_.now)

abbrev pub decreases-types::print_return_type : goal.decreases-types::print_return_type
decreases-types::print_return_type l = tree_size (return_type_tree l.type_.now)

abbrev pub decreases-types::print_attributed_type : goal.decreases-types::print_attributed_type
decreases-types::print_attributed_type l = tree_size (attributed_type_tree l.type_.now)

abbrev pub decreases-types::print_attributed_non_any_type : goal.decreases-types::print_attributed_non_any_type
decreases-types::print_attributed_non_any_type l = tree_size (attributed_non_any_type_tree l.type_.now)

abbrev pub decreases-generic_types::print_sequence_type : goal.decreases-generic_types::print_sequence_type
decreases-generic_types::print_sequence_type l = tree_size (sequence_type_tree l.type_.now)

abbrev pub decreases-generic_types::print_nullable_sequence_type : goal.decreases-generic_types::print_nullable_sequence_type
decreases-generic_types::print_nullable_sequence_type l = tree_size (may_be_null_tree sequence_type_tree l.type_.now)

abbrev pub decreases-generic_types::print_frozen_array_type : goal.decreases-generic_types::print_frozen_array_type
decreases-generic_types::print_frozen_array_type l = tree_size (frozen_array_type_tree l.type_.now)

abbrev pub decreases-generic_types::print_nullable_frozen_array_type : goal.decreases-generic_types::print_nullable_frozen_array_type
decreases-generic_types::print_nullable_frozen_array_type l = tree_size (may_be_null_tree frozen_array_type_tree l.type_.now)

abbrev pub decreases-generic_types::print_promise_type : goal.decreases-generic_types::print_promise_type
decreases-generic_types::print_promise_type l = tree_size (promise_type_tree l.type_.now)

abbrev pub decreases-generic_types::print_record_type : goal.decreases-generic_types::print_record_type
decreases-generic_types::print_record_type l = tree_size (record_type_tree l.type_.now)

abbrev pub decreases-generic_types::print_nullable_record_type : goal.decreases-generic_types::print_nullable_record_type
decreases-generic_types::print_nullable_record_type l = tree_size (may_be_null_tree record_type_tree l.type_.now)

abbrev pub decreases-generic_types::print_record_types : goal.decreases-generic_types::print_record_types
decreases-generic_types::print_record_types l = tree_size (record_types_tree l.types.now)

abbrev pub decreases-unions::print_nullable_union_type : goal.decreases-unions::print_nullable_union_type
decreases-unions::print_nullable_union_type l = tree_size (may_be_null_tree union_type_tree l.type_.now)

abbrev pub decreases-unions::print_union_type : goal.decreases-unions::print_union_type
decreases-unions::print_union_type l = tree_size (union_type_tree l.type_.now)

abbrev pub decreases-unions::push_members : goal.decreases-unions::push_members
decreases-unions::push_members l = suc (trees_size (trees (map union_member_type_tree l.members.now.items)))

abbrev pub decreases-unions::print_union_member_type : goal.decreases-unions::print_union_member_type
decreases-unions::print_union_member_type l = tree_size (union_member_type_tree l.member.now)

abbrev pub decreases-attributes::print_attributes : goal.decreases-attributes::print_attributes
decreases-attributes::print_attributes l = tree_size (attributes_tree l.attributes.now)

abbrev pub decreases-attributes::print_attribute_list : goal.decreases-attributes::print_attribute_list
decreases-attributes::print_attribute_list l = tree_size (extended_attribute_list_tree l.attributes.now)

abbrev pub decreases-attributes::push_attributes : goal.decreases-attributes::push_attributes
decreases-attributes::push_attributes l = suc (trees_size (trees (map extended_attribute_tree l.attributes.now.items)))

abbrev pub decreases-attributes::print_extended_attribute : goal.decreases-attributes::print_extended_attribute
decreases-attributes::print_extended_attribute l = tree_size (extended_attribute_tree l.attribute.now)

abbrev pub decreases-attributes::print_arg_list : goal.decreases-attributes::print_arg_list
decreases-attributes::print_arg_list l = tree_size (extended_attribute_arg_list_tree l.attribute.now)

abbrev pub decreases-attributes::print_named_arg_list : goal.decreases-attributes::print_named_arg_list
decreases-attributes::print_named_arg_list l = tree_size (extended_attribute_named_arg_list_tree l.attribute.now)

abbrev pub decreases-arguments::print_arguments : goal.decreases-arguments::print_arguments
decreases-arguments::print_arguments l = tree_size (arguments_tree l.arguments.now)

abbrev pub decreases-arguments::push_arguments : goal.decreases-arguments::push_arguments
decreases-arguments::push_arguments l = suc (trees_size (trees (map argument_tree l.arguments.now.items)))

abbrev pub decreases-arguments::print_argument : goal.decreases-arguments::print_argument
decreases-arguments::print_argument l = tree_size (argument_tree l.argument.now)

abbrev pub decreases-arguments::print_single_argument : goal.decreases-arguments::print_single_argument
decreases-arguments::print_single_argument l = tree_size (single_argument_tree l.argument.now)

abbrev pub decreases-arguments::print_variadic_argument : goal.decreases-arguments::print_variadic_argument
decreases-arguments::print_variadic_argument l = tree_size (variadic_argument_tree l.argument.now)

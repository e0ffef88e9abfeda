-- What is cloned falls from call to call by the size of its tree, and each loop has cloned the items before.
use Rattle.std.proofs.Common.{◌≡◌, map, take}
use Rattle.std.specs.Prelude.{suc}
use Rattle.weedle_grammar.specs.Trees.{trees}
use Rattle.weedle_types.specs.TreeSize.{tree_size, trees_size}
use Rattle.weedle_parts.specs.ValueTrees.{may_be_null_tree}
use Rattle.weedle_types.specs.Trees.{argument_tree, arguments_tree, attributed_non_any_type_tree, attributed_type_tree, attributes_tree, extended_attribute_arg_list_tree, extended_attribute_named_arg_list_tree, extended_attribute_tree, frozen_array_type_tree, non_any_type_tree, promise_type_tree, record_key_type_tree, record_type_tree, record_types_tree, return_type_tree, sequence_type_tree, single_argument_tree, single_type_tree, type_tree, union_member_type_tree, union_type_tree, variadic_argument_tree}
use Rattle.weedle_types.proofs.clones.written.+clones.Given as goal

abbrev pub invariant-unions::clone_union_members-loop-item : goal.invariant-unions::clone_union_members-loop-item
invariant-unions::clone_union_members-loop-item l = map union_member_type_tree l.clones.items ≡ map union_member_type_tree (take l.item-index l.original.items)

abbrev pub invariant-attributes::clone_extended_attributes-loop-item : goal.invariant-attributes::clone_extended_attributes-loop-item
invariant-attributes::clone_extended_attributes-loop-item l = map extended_attribute_tree l.clones.items ≡ map extended_attribute_tree (take l.item-index l.original.items)

abbrev pub invariant-arguments::clone_argument_items-loop-item : goal.invariant-arguments::clone_argument_items-loop-item
invariant-arguments::clone_argument_items-loop-item l = map argument_tree l.clones.items ≡ map argument_tree (take l.item-index l.original.items)

abbrev pub decreases-types::clone_type : goal.decreases-types::clone_type
decreases-types::clone_type l = tree_size (type_tree l.original.now)

abbrev pub decreases-types::clone_single_type : goal.decreases-types::clone_single_type
decreases-types::clone_single_type l = tree_size (single_type_tree l.original.now)

abbrev pub decreases-types::clone_non_any_type : goal.decreases-types::clone_non_any_type
decreases-types::clone_non_any_type l = tree_size (non_any_type_tree l.original.now)

abbrev pub decreases-types::clone_record_key_type : goal.decreases-types::clone_record_key_type
decreases-types::clone_record_key_type l = tree_size (record_key_type_tree l.original.now)

abbrev pub decreases-types::clone_return_type : goal.decreases-types::clone_return_type
decreases-types::clone_return_type l = tree_size (return_type_tree l.original.now)

abbrev pub decreases-types::clone_attributed_type : goal.decreases-types::clone_attributed_type
decreases-types::clone_attributed_type l = tree_size (attributed_type_tree l.original.now)

abbrev pub decreases-types::clone_attributed_non_any_type : goal.decreases-types::clone_attributed_non_any_type
decreases-types::clone_attributed_non_any_type l = tree_size (attributed_non_any_type_tree l.original.now)

abbrev pub decreases-generic_types::clone_sequence_type : goal.decreases-generic_types::clone_sequence_type
decreases-generic_types::clone_sequence_type l = tree_size (sequence_type_tree l.original.now)

abbrev pub decreases-generic_types::clone_frozen_array_type : goal.decreases-generic_types::clone_frozen_array_type
decreases-generic_types::clone_frozen_array_type l = tree_size (frozen_array_type_tree l.original.now)

abbrev pub decreases-generic_types::clone_promise_type : goal.decreases-generic_types::clone_promise_type
decreases-generic_types::clone_promise_type l = tree_size (promise_type_tree l.original.now)

abbrev pub decreases-generic_types::clone_record_type : goal.decreases-generic_types::clone_record_type
decreases-generic_types::clone_record_type l = tree_size (record_type_tree l.original.now)

abbrev pub decreases-generic_types::clone_record_types : goal.decreases-generic_types::clone_record_types
decreases-generic_types::clone_record_types l = tree_size (record_types_tree l.original.now)

abbrev pub decreases-unions::clone_nullable_union_type : goal.decreases-unions::clone_nullable_union_type
decreases-unions::clone_nullable_union_type l = tree_size (may_be_null_tree union_type_tree l.original.now)

abbrev pub decreases-unions::clone_union_members : goal.decreases-unions::clone_union_members
decreases-unions::clone_union_members l = suc (trees_size (trees (map union_member_type_tree l.original.now.items)))

abbrev pub decreases-unions::clone_union_member_type : goal.decreases-unions::clone_union_member_type
decreases-unions::clone_union_member_type l = tree_size (union_member_type_tree l.original.now)

abbrev pub decreases-attributes::clone_attributes : goal.decreases-attributes::clone_attributes
decreases-attributes::clone_attributes l = tree_size (attributes_tree l.original.now)

abbrev pub decreases-attributes::clone_extended_attributes : goal.decreases-attributes::clone_extended_attributes
decreases-attributes::clone_extended_attributes l = suc (trees_size (trees (map extended_attribute_tree l.original.now.items)))

abbrev pub decreases-attributes::clone_extended_attribute : goal.decreases-attributes::clone_extended_attribute
decreases-attributes::clone_extended_attribute l = tree_size (extended_attribute_tree l.original.now)

abbrev pub decreases-attributes::clone_extended_attribute_arg_list : goal.decreases-attributes::clone_extended_attribute_arg_list
decreases-attributes::clone_extended_attribute_arg_list l = tree_size (extended_attribute_arg_list_tree l.original.now)

abbrev pub decreases-attributes::clone_extended_attribute_named_arg_list : goal.decreases-attributes::clone_extended_attribute_named_arg_list
decreases-attributes::clone_extended_attribute_named_arg_list l = tree_size (extended_attribute_named_arg_list_tree l.original.now)

abbrev pub decreases-arguments::clone_argument : goal.decreases-arguments::clone_argument
decreases-arguments::clone_argument l = tree_size (argument_tree l.original.now)

abbrev pub decreases-arguments::clone_single_argument : goal.decreases-arguments::clone_single_argument
decreases-arguments::clone_single_argument l = tree_size (single_argument_tree l.original.now)

abbrev pub decreases-arguments::clone_variadic_argument : goal.decreases-arguments::clone_variadic_argument
decreases-arguments::clone_variadic_argument l = tree_size (variadic_argument_tree l.original.now)

abbrev pub decreases-arguments::clone_arguments : goal.decreases-arguments::clone_arguments
decreases-arguments::clone_arguments l = tree_size (arguments_tree l.original.now)

abbrev pub decreases-arguments::clone_argument_items : goal.decreases-arguments::clone_argument_items
decreases-arguments::clone_argument_items l = suc (trees_size (trees (map argument_tree l.original.now.items)))

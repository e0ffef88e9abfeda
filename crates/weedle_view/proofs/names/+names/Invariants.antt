-- What is gone through falls from call to call by the size of its tree, and each loop has added the names of the items before.
use Rattle.std.proofs.Common.{◌≡◌, ◌++◌, map, take}
use Rattle.std.specs.Prelude.{suc, flat_map}
use Rattle.weedle_grammar.specs.Trees.{trees}
use Rattle.weedle_types.specs.TreeSize.{tree_size, trees_size}
use Rattle.weedle_types.specs.Trees.{argument_tree, arguments_tree, attributed_type_tree, attributes_tree, extended_attribute_tree, non_any_type_tree, record_key_type_tree, record_types_tree, return_type_tree, type_tree, union_member_type_tree}
use Rattle.weedle_view.specs.TypeNames.{names_in_argument, names_in_attribute, names_in_union_member}
use Rattle.weedle_view.proofs.names.+names.Given as goal

abbrev pub invariant-unions::push_union_members-loop-member : goal.invariant-unions::push_union_members-loop-member
invariant-unions::push_union_members-loop-member l = l.names.items ≡ l.fn.names.items ++ flat_map names_in_union_member (take l.member-index l.members.items)

abbrev pub invariant-attributes::push_attribute_items-loop-attribute : goal.invariant-attributes::push_attribute_items-loop-attribute
invariant-attributes::push_attribute_items-loop-attribute l = l.names.items ≡ l.fn.names.items ++ flat_map names_in_attribute (take l.attribute-index l.attributes.items)

abbrev pub invariant-arguments::push_argument_items-loop-argument : goal.invariant-arguments::push_argument_items-loop-argument
invariant-arguments::push_argument_items-loop-argument l = l.names.items ≡ l.fn.names.items ++ flat_map names_in_argument (take l.argument-index l.arguments.items)

abbrev pub decreases-types::push_type : goal.decreases-types::push_type
decreases-types::push_type l = tree_size (type_tree l.type_.now)

abbrev pub decreases-types::push_non_any_type : goal.decreases-types::push_non_any_type
decreases-types::push_non_any_type l = tree_size (non_any_type_tree l.type_.now)

abbrev pub decreases-types::push_record_types : goal.decreases-types::push_record_types
decreases-types::push_record_types l = tree_size (record_types_tree l.types.now)

abbrev pub decreases-types::push_key_type : goal.decreases-types::push_key_type
decreases-types::push_key_type l = tree_size (record_key_type_tree l.key.now)

abbrev pub decreases-types::push_return_type : goal.decreases-types::push_return_type
decreases-types::push_return_type l = tree_size (return_type_tree l.return_type.now)

abbrev pub decreases-types::push_attributed_type : goal.decreases-types::push_attributed_type
decreases-types::push_attributed_type l = tree_size (attributed_type_tree l.type_.now)

abbrev pub decreases-unions::push_union_members : goal.decreases-unions::push_union_members
decreases-unions::push_union_members l = suc (trees_size (trees (map union_member_type_tree l.members.now.items)))

abbrev pub decreases-unions::push_union_member : goal.decreases-unions::push_union_member
decreases-unions::push_union_member l = tree_size (union_member_type_tree l.member.now)

abbrev pub decreases-attributes::push_attributes : goal.decreases-attributes::push_attributes
decreases-attributes::push_attributes l = tree_size (attributes_tree l.attributes.now)

abbrev pub decreases-attributes::push_attribute_items : goal.decreases-attributes::push_attribute_items
decreases-attributes::push_attribute_items l = suc (trees_size (trees (map extended_attribute_tree l.attributes.now.items)))

abbrev pub decreases-attributes::push_attribute : goal.decreases-attributes::push_attribute
decreases-attributes::push_attribute l = tree_size (extended_attribute_tree l.attribute.now)

abbrev pub decreases-arguments::push_arguments : goal.decreases-arguments::push_arguments
decreases-arguments::push_arguments l = tree_size (arguments_tree l.arguments.now)

abbrev pub decreases-arguments::push_argument_items : goal.decreases-arguments::push_argument_items
decreases-arguments::push_argument_items l = suc (trees_size (trees (map argument_tree l.arguments.now.items)))

abbrev pub decreases-arguments::push_argument : goal.decreases-arguments::push_argument
decreases-arguments::push_argument l = tree_size (argument_tree l.argument.now)

-- What is gone through falls from call to call, by the size of its tree.
use Rattle.std.specs.Prelude.{suc, map}
use Rattle.weedle_grammar.specs.Trees.{trees}
use Rattle.weedle_types.specs.TreeSize.{tree_size, trees_size}
use Rattle.weedle_types.specs.Trees.{non_any_type_tree, type_tree, union_member_type_tree}
use Rattle.weedle_type_rows.proofs.walks.+lists.Given as goal

abbrev pub decreases-lists_in : goal.decreases-lists_in
decreases-lists_in l = tree_size (type_tree l.type_.now)

abbrev pub decreases-lists_in_non_any : goal.decreases-lists_in_non_any
decreases-lists_in_non_any l = tree_size (non_any_type_tree l.type_.now)

abbrev pub decreases-lists_in_members : goal.decreases-lists_in_members
decreases-lists_in_members l = suc (trees_size (trees (map union_member_type_tree l.members.now.items)))

abbrev pub decreases-lists_in_member : goal.decreases-lists_in_member
decreases-lists_in_member l = tree_size (union_member_type_tree l.member.now)

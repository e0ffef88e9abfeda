-- The trees of variants are those of their members.
use Rattle.std.proofs.Common.{refl}
use Rattle.weedle_types.proofs.TreeLaws.{single_type_of, union_of, promise_of, record_of, member_single_of, member_union_of, argument_single_of, argument_variadic_of, arg_list_of, named_arg_list_of}
use Rattle.weedle_spell.specs.VariantTrees.{VariantsHaveTrees}

pub variant_trees_law : VariantsHaveTrees
variant_trees_law = record {
  type_single = single_type_of;
  type_union = union_of;
  promise = promise_of;
  sequence = λ v. refl;
  frozen_array = λ v. refl;
  record_ = record_of;
  member_single = member_single_of;
  member_union = member_union_of;
  argument_single = argument_single_of;
  argument_variadic = argument_variadic_of;
  arg_list = arg_list_of;
  named_arg_list = named_arg_list_of;
}

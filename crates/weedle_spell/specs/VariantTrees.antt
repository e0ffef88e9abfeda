-- A variant of the types that hold one another has the tree of its member, as the alternative of the variant's place.
use Rattle.std.specs.Prelude.{◌≡◌}
use Rattle.weedle_base.specs.declared.term.written.type_keywords.Or.{Or}
use Rattle.weedle_parts.specs.declared.common.brackets.Parenthesized.{Parenthesized}
use Rattle.weedle_parts.specs.declared.common.punctuated.Punctuated.{Punctuated}
use Rattle.weedle_parts.specs.ValueTrees.{may_be_null_tree}
use Rattle.weedle_parts.specs.declared.types.may_be_null.MayBeNull.{MayBeNull}
use Rattle.weedle_grammar.specs.Trees.{Alt}
use Rattle.weedle_types.specs.declared.argument.Argument.TheVariants.{Single as Argument-Single, Variadic as Argument-Variadic}
use Rattle.weedle_types.specs.declared.argument.SingleArgument.{SingleArgument}
use Rattle.weedle_types.specs.declared.argument.VariadicArgument.{VariadicArgument}
use Rattle.weedle_types.specs.declared.attribute.ExtendedAttribute.TheVariants.{ArgList, NamedArgList}
use Rattle.weedle_types.specs.declared.attribute.ExtendedAttributeArgList.{ExtendedAttributeArgList}
use Rattle.weedle_types.specs.declared.attribute.ExtendedAttributeNamedArgList.{ExtendedAttributeNamedArgList}
use Rattle.weedle_types.specs.declared.formers.FrozenArrayType.{FrozenArrayType}
use Rattle.weedle_types.specs.declared.formers.PromiseType.{PromiseType}
use Rattle.weedle_types.specs.declared.formers.RecordType.{RecordType}
use Rattle.weedle_types.specs.declared.formers.ReturnType.{ReturnType}
use Rattle.weedle_types.specs.declared.formers.SequenceType.{SequenceType}
use Rattle.weedle_types.specs.declared.formers.SingleType.{SingleType}
use Rattle.weedle_types.specs.declared.types.AttributedNonAnyType.{AttributedNonAnyType}
use Rattle.weedle_types.specs.declared.types.NonAnyType.TheVariants.{Promise as NonAnyType-Promise, Sequence as NonAnyType-Sequence, FrozenArrayType as NonAnyType-FrozenArrayType, RecordType as NonAnyType-RecordType}
use Rattle.weedle_types.specs.declared.types.NonAnyType.{NonAnyType}
use Rattle.weedle_types.specs.declared.types.RecordTypes.{RecordTypes}
use Rattle.weedle_types.specs.declared.types.UnionMemberType.TheVariants.{Single as UnionMemberType-Single, Union as UnionMemberType-Union}
use Rattle.weedle_types.specs.declared.types.UnionMemberType.{UnionMemberType}
use Rattle.weedle_types.specs.declared.types.«Type».TheVariants.{Single as Type-Single, Union as Type-Union}
use Rattle.weedle_types.specs.declared.types.«Type».{«Type»}
use Rattle.weedle_types.specs.Trees.{type_tree, non_any_type_tree, union_member_type_tree, argument_tree, extended_attribute_tree, single_type_tree, union_type_tree, promise_type_tree, sequence_type_tree, frozen_array_type_tree, record_type_tree, attributed_non_any_type_tree, single_argument_tree, variadic_argument_tree, extended_attribute_arg_list_tree, extended_attribute_named_arg_list_tree}

-- the tree of each variant that holds a type, an argument or an extended attribute, by the tree of that
pub record VariantsHaveTrees : Type 0 where
  pub type_single : (v : SingleType NonAnyType) → type_tree (Type-Single v) ≡ Alt 0 (single_type_tree v)
  pub type_union : (v : MayBeNull (Parenthesized (Punctuated UnionMemberType Or))) → type_tree (Type-Union v) ≡ Alt 1 (may_be_null_tree union_type_tree v)
  pub promise : (v : PromiseType (ReturnType «Type»)) → non_any_type_tree (NonAnyType-Promise v) ≡ Alt 0 (promise_type_tree v)
  pub sequence : (v : MayBeNull (SequenceType «Type»)) → non_any_type_tree (NonAnyType-Sequence v) ≡ Alt 9 (may_be_null_tree sequence_type_tree v)
  pub frozen_array : (v : MayBeNull (FrozenArrayType «Type»)) → non_any_type_tree (NonAnyType-FrozenArrayType v) ≡ Alt 26 (may_be_null_tree frozen_array_type_tree v)
  pub record_ : (v : MayBeNull (RecordType RecordTypes)) → non_any_type_tree (NonAnyType-RecordType v) ≡ Alt 27 (may_be_null_tree record_type_tree v)
  pub member_single : (v : AttributedNonAnyType) → union_member_type_tree (UnionMemberType-Single v) ≡ Alt 0 (attributed_non_any_type_tree v)
  pub member_union : (v : MayBeNull (Parenthesized (Punctuated UnionMemberType Or))) → union_member_type_tree (UnionMemberType-Union v) ≡ Alt 1 (may_be_null_tree union_type_tree v)
  pub argument_single : (v : SingleArgument) → argument_tree (Argument-Single v) ≡ Alt 0 (single_argument_tree v)
  pub argument_variadic : (v : VariadicArgument) → argument_tree (Argument-Variadic v) ≡ Alt 1 (variadic_argument_tree v)
  pub arg_list : (v : ExtendedAttributeArgList) → extended_attribute_tree (ArgList v) ≡ Alt 0 (extended_attribute_arg_list_tree v)
  pub named_arg_list : (v : ExtendedAttributeNamedArgList) → extended_attribute_tree (NamedArgList v) ≡ Alt 1 (extended_attribute_named_arg_list_tree v)

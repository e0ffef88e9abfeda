-- A variant of the types that hold one another is rendered as its member is.
use Rattle.std.specs.Prelude.{◌↔◌, ℕ, List}
use Rattle.weedle_base.specs.declared.term.written.type_keywords.Or.{Or}
use Rattle.weedle_parts.specs.declared.common.brackets.Parenthesized.{Parenthesized}
use Rattle.weedle_parts.specs.declared.common.punctuated.Punctuated.{Punctuated}
use Rattle.weedle_parts.specs.declared.types.may_be_null.MayBeNull.{MayBeNull}
use Rattle.weedle_types.specs.declared.argument.Argument.TheVariants.{Single as Argument-Single, Variadic as Argument-Variadic}
use Rattle.weedle_types.specs.declared.argument.SingleArgument.{SingleArgument}
use Rattle.weedle_types.specs.declared.argument.VariadicArgument.{VariadicArgument}
use Rattle.weedle_types.specs.declared.attribute.ExtendedAttribute.TheVariants.{ArgList, NamedArgList}
use Rattle.weedle_types.specs.declared.attribute.ExtendedAttributeArgList.{ExtendedAttributeArgList}
use Rattle.weedle_types.specs.declared.attribute.ExtendedAttributeNamedArgList.{ExtendedAttributeNamedArgList}
use Rattle.weedle_types.specs.declared.formers.FrozenArrayType.{FrozenArrayType}
use Rattle.weedle_types.specs.declared.formers.PromiseType.{PromiseType}
use Rattle.weedle_types.specs.declared.formers.RecordType.{RecordType}
use Rattle.weedle_types.specs.declared.formers.ReturnType.{ReturnType}
use Rattle.weedle_types.specs.declared.formers.SequenceType.{SequenceType}
use Rattle.weedle_types.specs.declared.formers.SingleType.{SingleType}
use Rattle.weedle_types.specs.declared.types.AttributedNonAnyType.{AttributedNonAnyType}
use Rattle.weedle_types.specs.declared.types.NonAnyType.TheVariants.{Promise as NonAnyType-Promise, Sequence as NonAnyType-Sequence, FrozenArrayType as NonAnyType-FrozenArrayType, RecordType as NonAnyType-RecordType}
use Rattle.weedle_types.specs.declared.types.NonAnyType.{NonAnyType}
use Rattle.weedle_types.specs.declared.types.RecordTypes.{RecordTypes}
use Rattle.weedle_types.specs.declared.types.UnionMemberType.TheVariants.{Single as UnionMemberType-Single, Union as UnionMemberType-Union}
use Rattle.weedle_types.specs.declared.types.UnionMemberType.{UnionMemberType}
use Rattle.weedle_types.specs.declared.types.«Type».TheVariants.{Single as Type-Single, Union as Type-Union}
use Rattle.weedle_types.specs.declared.types.«Type».{«Type»}
use Rattle.weedle_spell.specs.Forms.{Form}
use Rattle.weedle_spell.specs.GenericParts.{may_be_null_spelling}
use Rattle.weedle_spell.specs.written.Arguments.{single_argument_spelling, variadic_argument_spelling, extended_attribute_arg_list_spelling, extended_attribute_named_arg_list_spelling}
use Rattle.weedle_spell.specs.RecursiveTypes.{type_spelling, non_any_type_spelling, union_member_type_spelling, argument_spelling, extended_attribute_spelling}
use Rattle.weedle_spell.specs.written.Types.{single_type_spelling, union_type_spelling, promise_type_spelling, sequence_type_spelling, frozen_array_type_spelling, record_type_spelling, attributed_non_any_type_spelling}

-- the same texts are of both forms
abbrev pub IsSame : Form → Form → Type 0
IsSame A B = (s : List ℕ) → A s ↔ B s

-- each variant that holds a type, an argument or an extended attribute is rendered as that is
pub record VariantsAreSpelt : Type 0 where
  pub type_single : (v : SingleType NonAnyType) → IsSame (type_spelling (Type-Single v)) (single_type_spelling v)
  pub type_union : (v : MayBeNull (Parenthesized (Punctuated UnionMemberType Or))) → IsSame (type_spelling (Type-Union v)) (may_be_null_spelling union_type_spelling v)
  pub promise : (v : PromiseType (ReturnType «Type»)) → IsSame (non_any_type_spelling (NonAnyType-Promise v)) (promise_type_spelling v)
  pub sequence : (v : MayBeNull (SequenceType «Type»)) → IsSame (non_any_type_spelling (NonAnyType-Sequence v)) (may_be_null_spelling sequence_type_spelling v)
  pub frozen_array : (v : MayBeNull (FrozenArrayType «Type»)) → IsSame (non_any_type_spelling (NonAnyType-FrozenArrayType v)) (may_be_null_spelling frozen_array_type_spelling v)
  pub record_ : (v : MayBeNull (RecordType RecordTypes)) → IsSame (non_any_type_spelling (NonAnyType-RecordType v)) (may_be_null_spelling record_type_spelling v)
  pub member_single : (v : AttributedNonAnyType) → IsSame (union_member_type_spelling (UnionMemberType-Single v)) (attributed_non_any_type_spelling v)
  pub member_union : (v : MayBeNull (Parenthesized (Punctuated UnionMemberType Or))) → IsSame (union_member_type_spelling (UnionMemberType-Union v)) (may_be_null_spelling union_type_spelling v)
  pub argument_single : (v : SingleArgument) → IsSame (argument_spelling (Argument-Single v)) (single_argument_spelling v)
  pub argument_variadic : (v : VariadicArgument) → IsSame (argument_spelling (Argument-Variadic v)) (variadic_argument_spelling v)
  pub arg_list : (v : ExtendedAttributeArgList) → IsSame (extended_attribute_spelling (ArgList v)) (extended_attribute_arg_list_spelling v)
  pub named_arg_list : (v : ExtendedAttributeNamedArgList) → IsSame (extended_attribute_spelling (NamedArgList v)) (extended_attribute_named_arg_list_spelling v)

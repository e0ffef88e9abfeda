-- What is a rendering of the member of a variant is a rendering of the variant.
use Rattle.std.specs.Prelude.{ℕ, List}
use Rattle.weedle_base.specs.declared.term.written.type_keywords.Or.{Or}
use Rattle.weedle_parts.specs.declared.common.brackets.Parenthesized.{Parenthesized}
use Rattle.weedle_parts.specs.declared.common.punctuated.Punctuated.{Punctuated}
use Rattle.weedle_parts.specs.declared.types.may_be_null.MayBeNull.{MayBeNull}
use Rattle.weedle_types.specs.declared.argument.Argument.TheVariants.{Single as Argument-Single, Variadic as Argument-Variadic}
use Rattle.weedle_types.specs.declared.argument.SingleArgument.{SingleArgument}
use Rattle.weedle_types.specs.declared.argument.VariadicArgument.{VariadicArgument}
use Rattle.weedle_types.specs.declared.attribute.ExtendedAttribute.TheVariants.{ArgList, NamedArgList}
use Rattle.weedle_types.specs.declared.attribute.ExtendedAttributeArgList.{ExtendedAttributeArgList}
use Rattle.weedle_types.specs.declared.attribute.ExtendedAttributeNamedArgList.{ExtendedAttributeNamedArgList}
use Rattle.weedle_types.specs.declared.formers.FrozenArrayType.{FrozenArrayType}
use Rattle.weedle_types.specs.declared.formers.PromiseType.{PromiseType}
use Rattle.weedle_types.specs.declared.formers.RecordType.{RecordType}
use Rattle.weedle_types.specs.declared.formers.ReturnType.{ReturnType}
use Rattle.weedle_types.specs.declared.formers.SequenceType.{SequenceType}
use Rattle.weedle_types.specs.declared.formers.SingleType.{SingleType}
use Rattle.weedle_types.specs.declared.types.AttributedNonAnyType.{AttributedNonAnyType}
use Rattle.weedle_types.specs.declared.types.NonAnyType.TheVariants.{Promise as NonAnyType-Promise, Sequence as NonAnyType-Sequence, FrozenArrayType as NonAnyType-FrozenArrayType, RecordType as NonAnyType-RecordType}
use Rattle.weedle_types.specs.declared.types.NonAnyType.{NonAnyType}
use Rattle.weedle_types.specs.declared.types.RecordTypes.{RecordTypes}
use Rattle.weedle_types.specs.declared.types.UnionMemberType.TheVariants.{Single as UnionMemberType-Single, Union as UnionMemberType-Union}
use Rattle.weedle_types.specs.declared.types.UnionMemberType.{UnionMemberType}
use Rattle.weedle_types.specs.declared.types.«Type».TheVariants.{Single as Type-Single, Union as Type-Union}
use Rattle.weedle_types.specs.declared.types.«Type».{«Type»}
use Rattle.weedle_spell.specs.GenericParts.{may_be_null_spelling}
use Rattle.weedle_spell.specs.written.Arguments.{single_argument_spelling, variadic_argument_spelling, extended_attribute_arg_list_spelling, extended_attribute_named_arg_list_spelling}
use Rattle.weedle_spell.specs.RecursiveTypes.{type_spelling, non_any_type_spelling, union_member_type_spelling, argument_spelling, extended_attribute_spelling}
use Rattle.weedle_spell.specs.written.Types.{single_type_spelling, union_type_spelling, promise_type_spelling, sequence_type_spelling, frozen_array_type_spelling, record_type_spelling, attributed_non_any_type_spelling}
use Rattle.std.specs.Prelude.{ℕ, List}
use Rattle.weedle_print.proofs.AddsFacts.{adds_as}
use Rattle.weedle_print.specs.Adds.{Adds}
use Rattle.weedle_spell.proofs.VariantFacts.{variants_law}

module _ {x y : List ℕ} where
  pub adds_type_single : (v : SingleType NonAnyType) → Adds (single_type_spelling v) x y → Adds (type_spelling (Type-Single v)) x y
  adds_type_single v a = adds_as (λ s h. (variants_law.type_single v s).1 h) a

  pub adds_type_union : (v : MayBeNull (Parenthesized (Punctuated UnionMemberType Or))) → Adds (may_be_null_spelling union_type_spelling v) x y → Adds (type_spelling (Type-Union v)) x y
  adds_type_union v a = adds_as (λ s h. (variants_law.type_union v s).1 h) a

  pub adds_promise : (v : PromiseType (ReturnType «Type»)) → Adds (promise_type_spelling v) x y → Adds (non_any_type_spelling (NonAnyType-Promise v)) x y
  adds_promise v a = adds_as (λ s h. (variants_law.promise v s).1 h) a

  pub adds_sequence : (v : MayBeNull (SequenceType «Type»)) → Adds (may_be_null_spelling sequence_type_spelling v) x y → Adds (non_any_type_spelling (NonAnyType-Sequence v)) x y
  adds_sequence v a = adds_as (λ s h. (variants_law.sequence v s).1 h) a

  pub adds_frozen_array : (v : MayBeNull (FrozenArrayType «Type»)) → Adds (may_be_null_spelling frozen_array_type_spelling v) x y → Adds (non_any_type_spelling (NonAnyType-FrozenArrayType v)) x y
  adds_frozen_array v a = adds_as (λ s h. (variants_law.frozen_array v s).1 h) a

  pub adds_record : (v : MayBeNull (RecordType RecordTypes)) → Adds (may_be_null_spelling record_type_spelling v) x y → Adds (non_any_type_spelling (NonAnyType-RecordType v)) x y
  adds_record v a = adds_as (λ s h. (variants_law.record_ v s).1 h) a

  pub adds_member_single : (v : AttributedNonAnyType) → Adds (attributed_non_any_type_spelling v) x y → Adds (union_member_type_spelling (UnionMemberType-Single v)) x y
  adds_member_single v a = adds_as (λ s h. (variants_law.member_single v s).1 h) a

  pub adds_member_union : (v : MayBeNull (Parenthesized (Punctuated UnionMemberType Or))) → Adds (may_be_null_spelling union_type_spelling v) x y → Adds (union_member_type_spelling (UnionMemberType-Union v)) x y
  adds_member_union v a = adds_as (λ s h. (variants_law.member_union v s).1 h) a

  pub adds_argument_single : (v : SingleArgument) → Adds (single_argument_spelling v) x y → Adds (argument_spelling (Argument-Single v)) x y
  adds_argument_single v a = adds_as (λ s h. (variants_law.argument_single v s).1 h) a

  pub adds_argument_variadic : (v : VariadicArgument) → Adds (variadic_argument_spelling v) x y → Adds (argument_spelling (Argument-Variadic v)) x y
  adds_argument_variadic v a = adds_as (λ s h. (variants_law.argument_variadic v s).1 h) a

  pub adds_arg_list : (v : ExtendedAttributeArgList) → Adds (extended_attribute_arg_list_spelling v) x y → Adds (extended_attribute_spelling (ArgList v)) x y
  adds_arg_list v a = adds_as (λ s h. (variants_law.arg_list v s).1 h) a

  pub adds_named_arg_list : (v : ExtendedAttributeNamedArgList) → Adds (extended_attribute_named_arg_list_spelling v) x y → Adds (extended_attribute_spelling (NamedArgList v)) x y
  adds_named_arg_list v a = adds_as (λ s h. (variants_law.named_arg_list v s).1 h) a

-- what the search for the proof of what is put uses
pub ruleset variant_steps = (adds_type_single, adds_type_union, adds_promise, adds_sequence, adds_frozen_array, adds_record, adds_member_single, adds_member_union, adds_argument_single, adds_argument_variadic, adds_arg_list, adds_named_arg_list)

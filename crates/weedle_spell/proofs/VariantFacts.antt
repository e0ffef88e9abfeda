-- Each variant of the types that hold one another is rendered as its member is.
use Rattle.std.proofs.Common.{◌≡◌, refl, ap, sym, ◌∙◌, subst, Option, None, Some, Vec, Global, codes}
use Rattle.weedle_base.specs.declared.term.written.symbols.Comma.{Comma}
use Rattle.weedle_base.specs.declared.term.written.type_keywords.Or.{Or}
use Rattle.weedle_parts.specs.declared.common.brackets.Bracketed.{Bracketed}
use Rattle.weedle_parts.specs.declared.common.brackets.Parenthesized.{Parenthesized}
use Rattle.weedle_parts.specs.declared.common.punctuated.Punctuated.{Punctuated}
use Rattle.weedle_parts.specs.declared.types.may_be_null.MayBeNull.{MayBeNull}
use Rattle.weedle_types.specs.declared.argument.Argument.TheBlock.{items_hidden-the_row-Argument-1, items_hidden-the_row-ExtendedAttribute-0, items_hidden-the_row-UnionMemberType-2, hidden-the_row-Argument-1, hidden-the_row-ExtendedAttribute-0, hidden-the_row-UnionMemberType-2, back-SingleArgument-attributes, back-RecordTypes-0-4, back-NonAnyType-Promise-0-4}
use Rattle.weedle_types.specs.declared.argument.Argument.TheVariants.{Single as Argument-Single, Variadic as Argument-Variadic}
use Rattle.weedle_types.specs.declared.argument.Argument.{Argument}
use Rattle.weedle_types.specs.declared.argument.SingleArgument.{SingleArgument}
use Rattle.weedle_types.specs.declared.argument.VariadicArgument.{VariadicArgument}
use Rattle.weedle_types.specs.declared.attribute.ExtendedAttribute.TheVariants.{ArgList, NamedArgList}
use Rattle.weedle_types.specs.declared.attribute.ExtendedAttribute.{ExtendedAttribute}
use Rattle.weedle_types.specs.declared.attribute.ExtendedAttributeArgList.{ExtendedAttributeArgList}
use Rattle.weedle_types.specs.declared.attribute.ExtendedAttributeNamedArgList.{ExtendedAttributeNamedArgList}
use Rattle.weedle_types.specs.declared.formers.PromiseType.{PromiseType}
use Rattle.weedle_types.specs.declared.formers.RecordKeyType.TheVariants.{Byte as RecordKeyType-Byte, DOM as RecordKeyType-DOM, USV as RecordKeyType-USV, NonAny as RecordKeyType-NonAny}
use Rattle.weedle_types.specs.declared.formers.RecordKeyType.{RecordKeyType}
use Rattle.weedle_types.specs.declared.formers.RecordType.{RecordType}
use Rattle.weedle_types.specs.declared.formers.ReturnType.TheVariants.{Undefined as ReturnType-Undefined, Type_ as ReturnType-Type_}
use Rattle.weedle_types.specs.declared.formers.ReturnType.{ReturnType}
use Rattle.weedle_types.specs.declared.formers.SingleType.TheVariants.{Any as SingleType-Any, NonAny as SingleType-NonAny}
use Rattle.weedle_types.specs.declared.formers.SingleType.{SingleType}
use Rattle.weedle_types.specs.declared.types.AttributedNonAnyType.{AttributedNonAnyType}
use Rattle.weedle_types.specs.declared.types.NonAnyType.TheVariants.{Promise as NonAnyType-Promise, RecordType as NonAnyType-RecordType}
use Rattle.weedle_types.specs.declared.types.NonAnyType.{NonAnyType}
use Rattle.weedle_types.specs.declared.types.RecordTypes.{RecordTypes}
use Rattle.weedle_types.specs.declared.types.UnionMemberType.TheVariants.{Single as UnionMemberType-Single, Union as UnionMemberType-Union}
use Rattle.weedle_types.specs.declared.types.UnionMemberType.{UnionMemberType}
use Rattle.weedle_types.specs.declared.types.«Type».TheVariants.{Single as Type-Single, Union as Type-Union}
use Rattle.weedle_types.specs.declared.types.«Type».{«Type»}
use Rattle.weedle_spell.specs.Forms.{Form, ◌then◌, optional, separated_by}
use Rattle.weedle_spell.specs.GenericParts.{may_be_null_spelling}
use Rattle.weedle_spell.specs.Leaves.{terminal, identifier_spelling}
use Rattle.weedle_spell.specs.Tokens.{word}
use Rattle.weedle_spell.specs.written.Arguments.{attributes_spelling, single_argument_spelling, variadic_argument_spelling, extended_attribute_arg_list_spelling, extended_attribute_named_arg_list_spelling}
use Rattle.weedle_spell.specs.RecursiveTypes.{type_spelling, non_any_type_spelling, union_member_type_spelling, argument_spelling, extended_attribute_spelling, held_attributes_spelling, held_return_spelling, held_key_spelling, attribute_row_spelling, argument_row_spelling, union_row_spelling, default_where_optional}
use Rattle.weedle_spell.specs.written.Types.{single_type_spelling, union_type_spelling, promise_type_spelling, record_type_spelling, return_type_spelling, record_key_type_spelling, attributed_non_any_type_spelling}
use Rattle.weedle_spell.specs.Variants.{IsSame, VariantsAreSpelt}
use Rattle.weedle_spell.proofs.RecursiveTypeFacts.{attribute_row_spelling_is, argument_row_spelling_is, union_row_spelling_is}

same : {A B : Form} → A ≡ B → IsSame A B
same e = λ s. (λ a. subst (λ (X : Form). X s) e a, λ b. subst (λ (X : Form). X s) (sym e) b)

-- lists
attributes_of : (v : Vec ExtendedAttribute Global) → attribute_row_spelling (hidden-the_row-ExtendedAttribute-0 v) ≡ separated_by extended_attribute_spelling (word (codes ",")) v.items
attributes_of v = attribute_row_spelling_is (hidden-the_row-ExtendedAttribute-0 v) ∙ ap (separated_by extended_attribute_spelling (word (codes ","))) (items_hidden-the_row-ExtendedAttribute-0 v)

arguments_of : (v : Vec Argument Global) → argument_row_spelling (hidden-the_row-Argument-1 v) ≡ separated_by argument_spelling (word (codes ",")) v.items
arguments_of v = argument_row_spelling_is (hidden-the_row-Argument-1 v) ∙ ap (separated_by argument_spelling (word (codes ","))) (items_hidden-the_row-Argument-1 v)

members_of : (v : Vec UnionMemberType Global) → union_row_spelling (hidden-the_row-UnionMemberType-2 v) ≡ separated_by union_member_type_spelling (word (codes "or")) v.items
members_of v = union_row_spelling_is (hidden-the_row-UnionMemberType-2 v) ∙ ap (separated_by union_member_type_spelling (word (codes "or"))) (items_hidden-the_row-UnionMemberType-2 v)

-- extended attributes, or none
held_attributes_of : (o : Option (Bracketed (Punctuated ExtendedAttribute Comma))) → held_attributes_spelling (back-SingleArgument-attributes o) ≡ attributes_spelling o
held_attributes_of None = refl
held_attributes_of (Some x) = ap (λ (X : Form). word (codes "[") then X then word (codes "]")) (attributes_of x.body.list)

-- types
type_single : (v : SingleType NonAnyType) → type_spelling (Type-Single v) ≡ single_type_spelling v
type_single (SingleType-Any v) = refl
type_single (SingleType-NonAny v) = refl

return_of : (v : ReturnType «Type») → held_return_spelling (back-NonAnyType-Promise-0-4 v) ≡ return_type_spelling v
return_of (ReturnType-Undefined v) = refl
return_of (ReturnType-Type_ v) = refl

key_of : (v : RecordKeyType NonAnyType) → held_key_spelling (back-RecordTypes-0-4 v) ≡ record_key_type_spelling v
key_of (RecordKeyType-Byte v) = refl
key_of (RecordKeyType-DOM v) = refl
key_of (RecordKeyType-USV v) = refl
key_of (RecordKeyType-NonAny v) = refl

type_union : (v : MayBeNull (Parenthesized (Punctuated UnionMemberType Or))) → type_spelling (Type-Union v) ≡ may_be_null_spelling union_type_spelling v
type_union v = ap (λ (X : Form). (word (codes "(") then X then word (codes ")")) then optional (terminal (codes "?")) v.q_mark) (members_of v.type_.body.list)

member_union : (v : MayBeNull (Parenthesized (Punctuated UnionMemberType Or))) → union_member_type_spelling (UnionMemberType-Union v) ≡ may_be_null_spelling union_type_spelling v
member_union v = ap (λ (X : Form). (word (codes "(") then X then word (codes ")")) then optional (terminal (codes "?")) v.q_mark) (members_of v.type_.body.list)

member_single : (v : AttributedNonAnyType) → union_member_type_spelling (UnionMemberType-Single v) ≡ attributed_non_any_type_spelling v
member_single v = ap (λ (X : Form). X then non_any_type_spelling v.type_) (held_attributes_of v.attributes)

promise : (v : PromiseType (ReturnType «Type»)) → non_any_type_spelling (NonAnyType-Promise v) ≡ promise_type_spelling v
promise v = ap (λ (X : Form). word (codes "Promise") then word (codes "<") then X then word (codes ">")) (return_of v.generics.body.value)

record_type : (v : MayBeNull (RecordType RecordTypes)) → non_any_type_spelling (NonAnyType-RecordType v) ≡ may_be_null_spelling record_type_spelling v
record_type v =
    ap (λ (X : Form). (word (codes "record") then (word (codes "<") then (X then word (codes ",") then type_spelling v.type_.generics.body.2.value) then word (codes ">")))
    then optional (terminal (codes "?")) v.q_mark) (key_of v.type_.generics.body.0.value)

-- arguments
argument_single : (v : SingleArgument) → argument_spelling (Argument-Single v) ≡ single_argument_spelling v
argument_single v =
    ap (λ (X : Form). (X then optional (terminal (codes "optional")) v.optional
    then (held_attributes_spelling (back-SingleArgument-attributes v.type_.attributes) then type_spelling v.type_.type_) then identifier_spelling v.identifier)
    then default_where_optional v.optional v.default) (held_attributes_of v.attributes)
    ∙ ap (λ (X : Form). (attributes_spelling v.attributes then optional (terminal (codes "optional")) v.optional
    then (X then type_spelling v.type_.type_) then identifier_spelling v.identifier)
    then default_where_optional v.optional v.default) (held_attributes_of v.type_.attributes)

argument_variadic : (v : VariadicArgument) → argument_spelling (Argument-Variadic v) ≡ variadic_argument_spelling v
argument_variadic v = ap (λ (X : Form). X then type_spelling v.type_ then word (codes "...") then identifier_spelling v.identifier) (held_attributes_of v.attributes)

-- extended attributes with arguments
arg_list : (v : ExtendedAttributeArgList) → extended_attribute_spelling (ArgList v) ≡ extended_attribute_arg_list_spelling v
arg_list v = ap (λ (X : Form). identifier_spelling v.identifier then word (codes "(") then X then word (codes ")")) (arguments_of v.args.body.list)

named_arg_list : (v : ExtendedAttributeNamedArgList) → extended_attribute_spelling (NamedArgList v) ≡ extended_attribute_named_arg_list_spelling v
named_arg_list v =
    ap (λ (X : Form). identifier_spelling v.lhs_identifier then word (codes "=") then identifier_spelling v.rhs_identifier then word (codes "(") then X then word (codes ")"))
    (arguments_of v.args.body.list)

-- the law
pub variants_law : VariantsAreSpelt
variants_law = record {
  type_single = λ v. same (type_single v);
  type_union = λ v. same (type_union v);
  promise = λ v. same (promise v);
  sequence = λ v. same refl;
  frozen_array = λ v. same refl;
  record_ = λ v. same (record_type v);
  member_single = λ v. same (member_single v);
  member_union = λ v. same (member_union v);
  argument_single = λ v. same (argument_single v);
  argument_variadic = λ v. same (argument_variadic v);
  arg_list = λ v. same (arg_list v);
  named_arg_list = λ v. same (named_arg_list v);
}

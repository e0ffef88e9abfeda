-- The trees of values of the group, by their parts.
use Rattle.std.proofs.Common.{◌≡◌, refl, ap, sym, ◌∙◌, Option, None, Some, map, Vec, Global}
use Rattle.std.specs.Prelude.{[], ◌∷◌}
use Rattle.weedle_base.specs.Rules.{option_tree, mark_tree}
use Rattle.weedle_base.specs.declared.term.written.symbols.Comma.{Comma}
use Rattle.weedle_base.specs.declared.term.written.type_keywords.Or.{Or}
use Rattle.weedle_parts.specs.LiteralTrees.{default_tree}
use Rattle.weedle_parts.specs.ValueTrees.{identifier_tree, bracket_tree, may_be_null_tree}
use Rattle.weedle_parts.specs.declared.common.brackets.Bracketed.{Bracketed}
use Rattle.weedle_parts.specs.declared.common.brackets.Parenthesized.{Parenthesized}
use Rattle.weedle_parts.specs.declared.common.punctuated.Punctuated.{Punctuated}
use Rattle.weedle_parts.specs.declared.types.may_be_null.MayBeNull.{MayBeNull}
use Rattle.weedle_grammar.specs.Trees.{Then, Mark, Node, Alt, Present, Items, trees}
use Rattle.weedle_types.specs.Trees.{argument_tree, non_any_type_tree, type_tree, union_member_type_tree, held_return, held_key, held_single, held_attributes, attribute_row, argument_row, union_row, single_type_tree, return_type_tree, record_key_type_tree, record_type_tree, promise_type_tree, union_type_tree, extended_attribute_tree, extended_attribute_arg_list_tree, extended_attribute_named_arg_list_tree, attributes_tree, attributed_non_any_type_tree, single_argument_tree, variadic_argument_tree}
use Rattle.weedle_types.specs.declared.argument.Argument.TheBlock.{Row_of-Argument, end_of-Argument, more_of-Argument, Row_of-UnionMemberType, end_of-UnionMemberType, more_of-UnionMemberType, Row_of-ExtendedAttribute, end_of-ExtendedAttribute, more_of-ExtendedAttribute, items-the_row-Argument, items-the_row-UnionMemberType, items-the_row-ExtendedAttribute, items_hidden-the_row-Argument-1, items_hidden-the_row-ExtendedAttribute-0, items_hidden-the_row-UnionMemberType-2, hidden-the_row-Argument-1, hidden-the_row-ExtendedAttribute-0, hidden-the_row-UnionMemberType-2, back-SingleArgument-attributes, back-Type-Single-0, back-RecordTypes-0-4, back-NonAnyType-Promise-0-4}
use Rattle.weedle_types.specs.declared.argument.Argument.TheVariants.{Single as Argument-Single, Variadic as Argument-Variadic}
use Rattle.weedle_types.specs.declared.argument.Argument.{Argument}
use Rattle.weedle_types.specs.declared.argument.SingleArgument.{SingleArgument}
use Rattle.weedle_types.specs.declared.argument.VariadicArgument.{VariadicArgument}
use Rattle.weedle_types.specs.declared.attribute.ExtendedAttribute.TheVariants.{ArgList, NamedArgList}
use Rattle.weedle_types.specs.declared.attribute.ExtendedAttribute.{ExtendedAttribute}
use Rattle.weedle_types.specs.declared.attribute.ExtendedAttributeArgList.{ExtendedAttributeArgList}
use Rattle.weedle_types.specs.declared.attribute.ExtendedAttributeNamedArgList.{ExtendedAttributeNamedArgList}
use Rattle.weedle_types.specs.declared.formers.PromiseType.{PromiseType}
use Rattle.weedle_types.specs.declared.formers.RecordKeyType.TheVariants.{Byte as RecordKeyType-Byte, DOM as RecordKeyType-DOM, USV as RecordKeyType-USV, NonAny as RecordKeyType-NonAny}
use Rattle.weedle_types.specs.declared.formers.RecordKeyType.{RecordKeyType}
use Rattle.weedle_types.specs.declared.formers.RecordType.{RecordType}
use Rattle.weedle_types.specs.declared.formers.ReturnType.TheVariants.{Undefined as ReturnType-Undefined, Type_ as ReturnType-Type_}
use Rattle.weedle_types.specs.declared.formers.ReturnType.{ReturnType}
use Rattle.weedle_types.specs.declared.formers.SingleType.TheVariants.{Any as SingleType-Any, NonAny as SingleType-NonAny}
use Rattle.weedle_types.specs.declared.formers.SingleType.{SingleType}
use Rattle.weedle_types.specs.declared.types.AttributedNonAnyType.{AttributedNonAnyType}
use Rattle.weedle_types.specs.declared.types.NonAnyType.TheVariants.{Promise as NonAnyType-Promise, RecordType as NonAnyType-RecordType}
use Rattle.weedle_types.specs.declared.types.NonAnyType.{NonAnyType}
use Rattle.weedle_types.specs.declared.types.RecordTypes.{RecordTypes}
use Rattle.weedle_types.specs.declared.types.UnionMemberType.TheVariants.{Single as UnionMemberType-Single, Union as UnionMemberType-Union}
use Rattle.weedle_types.specs.declared.types.UnionMemberType.{UnionMemberType}
use Rattle.weedle_types.specs.declared.types.«Type».TheVariants.{Single as Type-Single, Union as Type-Union}
use Rattle.weedle_types.specs.declared.types.«Type».{«Type»}

union_row_items : (n : _) (k : Row_of-UnionMemberType n) → trees (map union_member_type_tree (items-the_row-UnionMemberType n k)) ≡ union_row k
union_row_items n end_of-UnionMemberType = refl
union_row_items n (more_of-UnionMemberType x r) = ap (Then (union_member_type_tree x)) (union_row_items _ r)

pub union_row_of : (v : Vec UnionMemberType Global) → union_row (hidden-the_row-UnionMemberType-2 v) ≡ trees (map union_member_type_tree v.items)
union_row_of v = sym (union_row_items _ (hidden-the_row-UnionMemberType-2 v)) ∙ ap (λ xs. trees (map union_member_type_tree xs)) (items_hidden-the_row-UnionMemberType-2 v)

argument_row_items : (n : _) (k : Row_of-Argument n) → trees (map argument_tree (items-the_row-Argument n k)) ≡ argument_row k
argument_row_items n end_of-Argument = refl
argument_row_items n (more_of-Argument x r) = ap (Then (argument_tree x)) (argument_row_items _ r)

pub argument_row_of : (v : Vec Argument Global) → argument_row (hidden-the_row-Argument-1 v) ≡ trees (map argument_tree v.items)
argument_row_of v = sym (argument_row_items _ (hidden-the_row-Argument-1 v)) ∙ ap (λ xs. trees (map argument_tree xs)) (items_hidden-the_row-Argument-1 v)

attribute_row_items : (n : _) (k : Row_of-ExtendedAttribute n) → trees (map extended_attribute_tree (items-the_row-ExtendedAttribute n k)) ≡ attribute_row k
attribute_row_items n end_of-ExtendedAttribute = refl
attribute_row_items n (more_of-ExtendedAttribute x r) = ap (Then (extended_attribute_tree x)) (attribute_row_items _ r)

pub attribute_row_of : (v : Vec ExtendedAttribute Global) → attribute_row (hidden-the_row-ExtendedAttribute-0 v) ≡ trees (map extended_attribute_tree v.items)
attribute_row_of v = sym (attribute_row_items _ (hidden-the_row-ExtendedAttribute-0 v)) ∙ ap (λ xs. trees (map extended_attribute_tree xs)) (items_hidden-the_row-ExtendedAttribute-0 v)

pub arg_list_of : (x : ExtendedAttributeArgList) → extended_attribute_tree (ArgList x) ≡ Alt 0 (extended_attribute_arg_list_tree x)
arg_list_of x = ap (λ ts. Alt 0 (Node (trees (identifier_tree x.identifier ∷ bracket_tree (Items ts) ∷ [])))) (argument_row_of x.args.body.list)

pub named_arg_list_of : (x : ExtendedAttributeNamedArgList) → extended_attribute_tree (NamedArgList x) ≡ Alt 1 (extended_attribute_named_arg_list_tree x)
named_arg_list_of x = ap (λ ts. Alt 1 (Node (trees (identifier_tree x.lhs_identifier ∷ Mark ∷ identifier_tree x.rhs_identifier ∷ bracket_tree (Items ts) ∷ [])))) (argument_row_of x.args.body.list)

pub single_type_of : (v : SingleType NonAnyType) → type_tree (Type-Single v) ≡ Alt 0 (single_type_tree v)
single_type_of (SingleType-Any v) = refl
single_type_of (SingleType-NonAny v) = refl

pub return_type_of : (v : ReturnType «Type») → held_return (back-NonAnyType-Promise-0-4 v) ≡ return_type_tree v
return_type_of (ReturnType-Undefined v) = refl
return_type_of (ReturnType-Type_ v) = refl

pub key_of : (v : RecordKeyType NonAnyType) → held_key (back-RecordTypes-0-4 v) ≡ record_key_type_tree v
key_of (RecordKeyType-Byte v) = refl
key_of (RecordKeyType-DOM v) = refl
key_of (RecordKeyType-USV v) = refl
key_of (RecordKeyType-NonAny v) = refl

pub union_of : (x : MayBeNull (Parenthesized (Punctuated UnionMemberType Or))) → type_tree (Type-Union x) ≡ Alt 1 (may_be_null_tree union_type_tree x)
union_of x = ap (λ ts. Alt 1 (Node (trees (bracket_tree (Items ts) ∷ option_tree mark_tree x.q_mark ∷ [])))) (union_row_of x.type_.body.list)

pub member_union_of : (x : MayBeNull (Parenthesized (Punctuated UnionMemberType Or))) → union_member_type_tree (UnionMemberType-Union x) ≡ Alt 1 (may_be_null_tree union_type_tree x)
member_union_of x = ap (λ ts. Alt 1 (Node (trees (bracket_tree (Items ts) ∷ option_tree mark_tree x.q_mark ∷ [])))) (union_row_of x.type_.body.list)

pub promise_of : (x : PromiseType (ReturnType «Type»)) → non_any_type_tree (NonAnyType-Promise x) ≡ Alt 0 (promise_type_tree x)
promise_of x = ap (λ t. Alt 0 (Node (trees (Mark ∷ bracket_tree t ∷ [])))) (return_type_of x.generics.body.value)

pub record_of : (x : MayBeNull (RecordType RecordTypes)) → non_any_type_tree (NonAnyType-RecordType x) ≡ Alt 27 (may_be_null_tree record_type_tree x)
record_of x = ap (λ t. Alt 27 (Node (trees (Node (trees (Mark ∷ bracket_tree (Node (trees (t ∷ Mark ∷ type_tree x.type_.generics.body.2.value ∷ []))) ∷ [])) ∷ option_tree mark_tree x.q_mark ∷ [])))) (key_of x.type_.generics.body.0.value)

-- extended attributes, or none
pub attributes_of : (o : Option (Bracketed (Punctuated ExtendedAttribute Comma))) → held_attributes (back-SingleArgument-attributes o) ≡ attributes_tree o
attributes_of None = refl
attributes_of (Some x) = ap (λ ts. Present (bracket_tree (Items ts))) (attribute_row_of x.body.list)

pub member_single_of : (x : AttributedNonAnyType) → union_member_type_tree (UnionMemberType-Single x) ≡ Alt 0 (attributed_non_any_type_tree x)
member_single_of x = ap (λ t. Alt 0 (Node (trees (t ∷ non_any_type_tree x.type_ ∷ [])))) (attributes_of x.attributes)

pub argument_single_of : (x : SingleArgument) → argument_tree (Argument-Single x) ≡ Alt 0 (single_argument_tree x)
argument_single_of x =
    ap (λ t. Alt 0 (Node (trees (t ∷ option_tree mark_tree x.optional ∷ Node (trees (held_attributes (back-SingleArgument-attributes x.type_.attributes) ∷ type_tree x.type_.type_ ∷ [])) ∷ identifier_tree x.identifier ∷ option_tree default_tree x.default ∷ [])))) (attributes_of x.attributes)
    ∙ ap (λ t. Alt 0 (Node (trees (attributes_tree x.attributes ∷ option_tree mark_tree x.optional ∷ Node (trees (t ∷ type_tree x.type_.type_ ∷ [])) ∷ identifier_tree x.identifier ∷ option_tree default_tree x.default ∷ [])))) (attributes_of x.type_.attributes)

pub argument_variadic_of : (x : VariadicArgument) → argument_tree (Argument-Variadic x) ≡ Alt 1 (variadic_argument_tree x)
argument_variadic_of x = ap (λ t. Alt 1 (Node (trees (t ∷ type_tree x.type_ ∷ Mark ∷ identifier_tree x.identifier ∷ [])))) (attributes_of x.attributes)

pub single_of : (v : SingleType NonAnyType) → held_single (back-Type-Single-0 v) ≡ single_type_tree v
single_of (SingleType-Any v) = refl
single_of (SingleType-NonAny v) = refl

-- what the search for the proof of a copy uses
pub ruleset clone_steps = (union_row_of, argument_row_of, attribute_row_of, attributes_of, return_type_of, key_of, single_of)

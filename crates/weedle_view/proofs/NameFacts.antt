-- The names in values of the recursive group, by their parts.
use Rattle.std.proofs.Common.{◌≡◌, refl, ap, sym, ◌∙◌, ◌++◌, Option, None, Some, Vec, Global, append_assoc, append-nil}
use Rattle.std.specs.Prelude.{flat_map}
use Rattle.weedle_base.specs.declared.term.written.symbols.Comma.{Comma}
use Rattle.weedle_parts.specs.declared.common.brackets.Bracketed.{Bracketed}
use Rattle.weedle_parts.specs.declared.common.punctuated.Punctuated.{Punctuated}
use Rattle.weedle_types.specs.declared.argument.Argument.TheBlock.{Row_of-Argument, end_of-Argument, more_of-Argument, Row_of-UnionMemberType, end_of-UnionMemberType, more_of-UnionMemberType, Row_of-ExtendedAttribute, end_of-ExtendedAttribute, more_of-ExtendedAttribute, items-the_row-Argument, items-the_row-UnionMemberType, items-the_row-ExtendedAttribute, items_hidden-the_row-Argument-1, items_hidden-the_row-ExtendedAttribute-0, items_hidden-the_row-UnionMemberType-2, hidden-the_row-Argument-1, hidden-the_row-ExtendedAttribute-0, hidden-the_row-UnionMemberType-2, back-SingleArgument-attributes, back-RecordTypes-0-4, back-NonAnyType-Promise-0-4}
use Rattle.weedle_types.specs.declared.argument.Argument.{Argument}
use Rattle.weedle_types.specs.declared.attribute.ExtendedAttribute.{ExtendedAttribute}
use Rattle.weedle_types.specs.declared.formers.RecordKeyType.TheVariants.{Byte as RecordKeyType-Byte, DOM as RecordKeyType-DOM, USV as RecordKeyType-USV, NonAny as RecordKeyType-NonAny}
use Rattle.weedle_types.specs.declared.formers.RecordKeyType.{RecordKeyType}
use Rattle.weedle_types.specs.declared.formers.ReturnType.TheVariants.{Undefined as ReturnType-Undefined, Type_ as ReturnType-Type_}
use Rattle.weedle_types.specs.declared.formers.ReturnType.{ReturnType}
use Rattle.weedle_types.specs.declared.types.NonAnyType.{NonAnyType}
use Rattle.weedle_types.specs.declared.types.UnionMemberType.{UnionMemberType}
use Rattle.weedle_types.specs.declared.types.«Type».{«Type»}
use Rattle.weedle_view.specs.TypeNames.{names_in_argument, names_in_argument_row, names_in_attribute, names_in_attribute_row, names_in_attributes, names_in_held_attributes, names_in_held_key, names_in_held_return, names_in_key_type, names_in_return_type, names_in_union_member, names_in_union_row}

union_row_items : (n : _) (k : Row_of-UnionMemberType n) → flat_map names_in_union_member (items-the_row-UnionMemberType n k) ≡ names_in_union_row k
union_row_items n end_of-UnionMemberType = refl
union_row_items n (more_of-UnionMemberType x r) = ap (λ names. names_in_union_member x ++ names) (union_row_items _ r)

-- the members of a union
pub union_names : (v : Vec UnionMemberType Global) → names_in_union_row (hidden-the_row-UnionMemberType-2 v) ≡ flat_map names_in_union_member v.items
union_names v = sym (union_row_items _ (hidden-the_row-UnionMemberType-2 v)) ∙ ap (λ xs. flat_map names_in_union_member xs) (items_hidden-the_row-UnionMemberType-2 v)

argument_row_items : (n : _) (k : Row_of-Argument n) → flat_map names_in_argument (items-the_row-Argument n k) ≡ names_in_argument_row k
argument_row_items n end_of-Argument = refl
argument_row_items n (more_of-Argument x r) = ap (λ names. names_in_argument x ++ names) (argument_row_items _ r)

-- arguments
pub argument_names : (v : Vec Argument Global) → names_in_argument_row (hidden-the_row-Argument-1 v) ≡ flat_map names_in_argument v.items
argument_names v = sym (argument_row_items _ (hidden-the_row-Argument-1 v)) ∙ ap (λ xs. flat_map names_in_argument xs) (items_hidden-the_row-Argument-1 v)

attribute_row_items : (n : _) (k : Row_of-ExtendedAttribute n) → flat_map names_in_attribute (items-the_row-ExtendedAttribute n k) ≡ names_in_attribute_row k
attribute_row_items n end_of-ExtendedAttribute = refl
attribute_row_items n (more_of-ExtendedAttribute x r) = ap (λ names. names_in_attribute x ++ names) (attribute_row_items _ r)

attribute_names : (v : Vec ExtendedAttribute Global) → names_in_attribute_row (hidden-the_row-ExtendedAttribute-0 v) ≡ flat_map names_in_attribute v.items
attribute_names v = sym (attribute_row_items _ (hidden-the_row-ExtendedAttribute-0 v)) ∙ ap (λ xs. flat_map names_in_attribute xs) (items_hidden-the_row-ExtendedAttribute-0 v)

-- extended attributes, or none
pub attributes_names : (o : Option (Bracketed (Punctuated ExtendedAttribute Comma))) → names_in_held_attributes (back-SingleArgument-attributes o) ≡ names_in_attributes o
attributes_names None = refl
attributes_names (Some x) = attribute_names x.body.list

-- the type of a result
pub return_names : (v : ReturnType «Type») → names_in_held_return (back-NonAnyType-Promise-0-4 v) ≡ names_in_return_type v
return_names (ReturnType-Undefined v) = refl
return_names (ReturnType-Type_ v) = refl

-- the type of a record's keys
pub key_names : (v : RecordKeyType NonAnyType) → names_in_held_key (back-RecordTypes-0-4 v) ≡ names_in_key_type v
key_names (RecordKeyType-Byte v) = refl
key_names (RecordKeyType-DOM v) = refl
key_names (RecordKeyType-USV v) = refl
key_names (RecordKeyType-NonAny v) = refl

-- what the search for the proof of what is added uses
pub ruleset name_steps = (append_assoc, append-nil, union_names, argument_names, attributes_names, return_names, key_names)

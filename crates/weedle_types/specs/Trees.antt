-- The tree of each value of the recursive group: the alternatives of a choice count from 0, a struct has the trees of its
-- fields in their order.
--
-- The logic holds a value that leads back to itself in types of its own: `Held-..` what one holds
-- of another, `Row_of-..` the items of a list, each named by where it is, and the variants of a
-- struct or enum with all their fields one by one (`Single'`). The first definition goes over
-- these. Those behind it say the same of the types as they are written, and are what contracts
-- name.
use Rattle.std.specs.Global.{Box}
use Rattle.std.specs.Prelude.{[], ◌∷◌, Option}
use Rattle.weedle_base.specs.Rules.{option_tree, mark_tree}
use Rattle.weedle_base.specs.declared.term.written.symbols.Comma.{Comma}
use Rattle.weedle_base.specs.declared.term.written.type_keywords.Or.{Or}
use Rattle.weedle_parts.specs.LiteralTrees.{string_tree, default_tree}
use Rattle.weedle_parts.specs.ValueTrees.{identifier_tree, bracket_tree, parenthesized_tree, bracketed_tree, generics_tree, may_be_null_tree, punctuated_tree, integer_type_tree, floating_point_type_tree}
use Rattle.weedle_parts.specs.declared.common.brackets.Bracketed.{Bracketed}
use Rattle.weedle_parts.specs.declared.common.brackets.Parenthesized.{Parenthesized}
use Rattle.weedle_parts.specs.declared.common.punctuated.Punctuated.{Punctuated}
use Rattle.weedle_grammar.specs.Trees.{Tree, Trees, Done, Then, Mark, Node, Alt, Absent, Present, Items, trees}
use Rattle.weedle_types.specs.declared.argument.Argument.TheBlock.{Held-NonAnyType-Promise-0-4, Undefined', Type_', Held-RecordTypes-0-4, RecordTypes-0-4-Byte', DOM', USV', RecordTypes-0-4-NonAny', Held-Type-Single-0, Any', Type-Single-0-NonAny', Held-SingleArgument-attributes, None', Some', Row_of-Argument, end_of-Argument, more_of-Argument, Row_of-UnionMemberType, end_of-UnionMemberType, more_of-UnionMemberType, Row_of-ExtendedAttribute, end_of-ExtendedAttribute, more_of-ExtendedAttribute}
use Rattle.weedle_types.specs.declared.argument.Argument.TheVariants.{Single' as Argument-Single', Variadic' as Argument-Variadic'}
use Rattle.weedle_types.specs.declared.argument.Argument.{Argument}
use Rattle.weedle_types.specs.declared.argument.ParenthesizedArgumentList.{ParenthesizedArgumentList}
use Rattle.weedle_types.specs.declared.argument.SingleArgument.{SingleArgument}
use Rattle.weedle_types.specs.declared.argument.VariadicArgument.{VariadicArgument}
use Rattle.weedle_types.specs.declared.attribute.ExtendedAttributeIdent.{ExtendedAttributeIdent}
use Rattle.weedle_types.specs.declared.attribute.ExtendedAttributeIdentList.{ExtendedAttributeIdentList}
use Rattle.weedle_types.specs.declared.attribute.ExtendedAttributeNoArgs.{ExtendedAttributeNoArgs}
use Rattle.weedle_types.specs.declared.attribute.IdentifierOrString.TheVariants.{Identifier as Named, String as Quoted}
use Rattle.weedle_types.specs.declared.attribute.IdentifierOrString.{IdentifierOrString}
use Rattle.weedle_types.specs.declared.attribute.ExtendedAttribute.TheVariants.{ArgList', NamedArgList', IdentList, Ident, NoArgs}
use Rattle.weedle_types.specs.declared.attribute.ExtendedAttribute.{ExtendedAttribute}
use Rattle.weedle_types.specs.declared.attribute.ExtendedAttributeArgList.{ExtendedAttributeArgList}
use Rattle.weedle_types.specs.declared.attribute.ExtendedAttributeNamedArgList.{ExtendedAttributeNamedArgList}
use Rattle.weedle_types.specs.declared.formers.FrozenArrayType.{FrozenArrayType}
use Rattle.weedle_types.specs.declared.formers.PromiseType.{PromiseType}
use Rattle.weedle_types.specs.declared.formers.RecordKeyType.TheVariants.{Byte as RecordKeyType-Byte, DOM as RecordKeyType-DOM, USV as RecordKeyType-USV, NonAny as RecordKeyType-NonAny}
use Rattle.weedle_types.specs.declared.formers.RecordKeyType.{RecordKeyType}
use Rattle.weedle_types.specs.declared.formers.RecordType.{RecordType}
use Rattle.weedle_types.specs.declared.formers.ReturnType.TheVariants.{Undefined as ReturnType-Undefined, Type_ as ReturnType-Type_}
use Rattle.weedle_types.specs.declared.formers.ReturnType.{ReturnType}
use Rattle.weedle_types.specs.declared.formers.SequenceType.{SequenceType}
use Rattle.weedle_types.specs.declared.formers.SingleType.TheVariants.{Any as SingleType-Any, NonAny as SingleType-NonAny}
use Rattle.weedle_types.specs.declared.formers.SingleType.{SingleType}
use Rattle.weedle_types.specs.declared.types.AttributedNonAnyType.{AttributedNonAnyType}
use Rattle.weedle_types.specs.declared.types.AttributedType.{AttributedType}
use Rattle.weedle_types.specs.declared.types.NonAnyType.TheVariants.{Promise' as NonAnyType-Promise', Integer as NonAnyType-Integer, FloatingPoint as NonAnyType-FloatingPoint, Boolean as NonAnyType-Boolean, Byte as NonAnyType-Byte, Octet as NonAnyType-Octet, ByteString as NonAnyType-ByteString, DOMString as NonAnyType-DOMString, USVString as NonAnyType-USVString, Sequence' as NonAnyType-Sequence', Object as NonAnyType-Object, Symbol as NonAnyType-Symbol, Error as NonAnyType-Error, ArrayBuffer as NonAnyType-ArrayBuffer, DataView as NonAnyType-DataView, Int8Array as NonAnyType-Int8Array, Int16Array as NonAnyType-Int16Array, Int32Array as NonAnyType-Int32Array, Uint8Array as NonAnyType-Uint8Array, Uint16Array as NonAnyType-Uint16Array, Uint32Array as NonAnyType-Uint32Array, Uint8ClampedArray as NonAnyType-Uint8ClampedArray, Float32Array as NonAnyType-Float32Array, Float64Array as NonAnyType-Float64Array, ArrayBufferView as NonAnyType-ArrayBufferView, BufferSource as NonAnyType-BufferSource, FrozenArrayType' as NonAnyType-FrozenArrayType', RecordType' as NonAnyType-RecordType', Identifier as NonAnyType-Identifier}
use Rattle.weedle_types.specs.declared.types.NonAnyType.{NonAnyType}
use Rattle.weedle_types.specs.declared.types.RecordTypes.{RecordTypes}
use Rattle.weedle_types.specs.declared.types.UnionMemberType.TheVariants.{Single' as UnionMemberType-Single', Union' as UnionMemberType-Union'}
use Rattle.weedle_types.specs.declared.types.UnionMemberType.{UnionMemberType}
use Rattle.weedle_types.specs.declared.types.«Type».TheVariants.{Single' as Type-Single', Union' as Type-Union'}
use Rattle.weedle_types.specs.declared.types.«Type».{«Type»}

-- a name or a string
abbrev pub identifier_or_string_tree : IdentifierOrString → Tree
identifier_or_string_tree (Named v) = Alt 0 (identifier_tree v)
identifier_or_string_tree (Quoted v) = Alt 1 (string_tree v)

-- a name with another, or with a string
abbrev pub extended_attribute_ident_tree : ExtendedAttributeIdent → Tree
extended_attribute_ident_tree v = Node (trees (identifier_tree v.lhs_identifier ∷ Mark ∷ identifier_or_string_tree v.rhs ∷ []))

-- a name alone
abbrev pub extended_attribute_no_args_tree : ExtendedAttributeNoArgs → Tree
extended_attribute_no_args_tree v = Node (trees (identifier_tree v.0 ∷ []))

-- a name with others
abbrev pub extended_attribute_ident_list_tree : ExtendedAttributeIdentList → Tree
extended_attribute_ident_list_tree v = Node (trees (identifier_tree v.identifier ∷ Mark ∷ parenthesized_tree (punctuated_tree identifier_tree) v.list ∷ []))

abbrev mutual
  -- an argument
  pub argument_tree : Argument → Tree
  argument_tree (Argument-Single' a o h t i d) = Alt 0 (Node (trees (held_attributes a ∷ option_tree mark_tree o ∷ Node (trees (held_attributes h ∷ type_tree t ∷ [])) ∷ identifier_tree i ∷ option_tree default_tree d ∷ [])))
  argument_tree (Argument-Variadic' a t e i) = Alt 1 (Node (trees (held_attributes a ∷ type_tree t ∷ Mark ∷ identifier_tree i ∷ [])))

  -- a type other than `any` and unions
  pub non_any_type_tree : NonAnyType → Tree
  non_any_type_tree (NonAnyType-Promise' p l b t g) = Alt 0 (Node (trees (Mark ∷ bracket_tree (held_return t) ∷ [])))
  non_any_type_tree (NonAnyType-Integer v) = Alt 1 (may_be_null_tree integer_type_tree v)
  non_any_type_tree (NonAnyType-FloatingPoint v) = Alt 2 (may_be_null_tree floating_point_type_tree v)
  non_any_type_tree (NonAnyType-Boolean v) = Alt 3 (may_be_null_tree mark_tree v)
  non_any_type_tree (NonAnyType-Byte v) = Alt 4 (may_be_null_tree mark_tree v)
  non_any_type_tree (NonAnyType-Octet v) = Alt 5 (may_be_null_tree mark_tree v)
  non_any_type_tree (NonAnyType-ByteString v) = Alt 6 (may_be_null_tree mark_tree v)
  non_any_type_tree (NonAnyType-DOMString v) = Alt 7 (may_be_null_tree mark_tree v)
  non_any_type_tree (NonAnyType-USVString v) = Alt 8 (may_be_null_tree mark_tree v)
  non_any_type_tree (NonAnyType-Sequence' s l b t g q) = Alt 9 (Node (trees (Node (trees (Mark ∷ bracket_tree (type_tree t) ∷ [])) ∷ option_tree mark_tree q ∷ [])))
  non_any_type_tree (NonAnyType-Object v) = Alt 10 (may_be_null_tree mark_tree v)
  non_any_type_tree (NonAnyType-Symbol v) = Alt 11 (may_be_null_tree mark_tree v)
  non_any_type_tree (NonAnyType-Error v) = Alt 12 (may_be_null_tree mark_tree v)
  non_any_type_tree (NonAnyType-ArrayBuffer v) = Alt 13 (may_be_null_tree mark_tree v)
  non_any_type_tree (NonAnyType-DataView v) = Alt 14 (may_be_null_tree mark_tree v)
  non_any_type_tree (NonAnyType-Int8Array v) = Alt 15 (may_be_null_tree mark_tree v)
  non_any_type_tree (NonAnyType-Int16Array v) = Alt 16 (may_be_null_tree mark_tree v)
  non_any_type_tree (NonAnyType-Int32Array v) = Alt 17 (may_be_null_tree mark_tree v)
  non_any_type_tree (NonAnyType-Uint8Array v) = Alt 18 (may_be_null_tree mark_tree v)
  non_any_type_tree (NonAnyType-Uint16Array v) = Alt 19 (may_be_null_tree mark_tree v)
  non_any_type_tree (NonAnyType-Uint32Array v) = Alt 20 (may_be_null_tree mark_tree v)
  non_any_type_tree (NonAnyType-Uint8ClampedArray v) = Alt 21 (may_be_null_tree mark_tree v)
  non_any_type_tree (NonAnyType-Float32Array v) = Alt 22 (may_be_null_tree mark_tree v)
  non_any_type_tree (NonAnyType-Float64Array v) = Alt 23 (may_be_null_tree mark_tree v)
  non_any_type_tree (NonAnyType-ArrayBufferView v) = Alt 24 (may_be_null_tree mark_tree v)
  non_any_type_tree (NonAnyType-BufferSource v) = Alt 25 (may_be_null_tree mark_tree v)
  non_any_type_tree (NonAnyType-FrozenArrayType' s l b t g q) = Alt 26 (Node (trees (Node (trees (Mark ∷ bracket_tree (type_tree t) ∷ [])) ∷ option_tree mark_tree q ∷ [])))
  non_any_type_tree (NonAnyType-RecordType' r l b k c d t g q) = Alt 27 (Node (trees (Node (trees (Mark ∷ bracket_tree (Node (trees (held_key k ∷ Mark ∷ type_tree t ∷ []))) ∷ [])) ∷ option_tree mark_tree q ∷ [])))
  non_any_type_tree (NonAnyType-Identifier v) = Alt 28 (may_be_null_tree identifier_tree v)

  -- a type
  pub type_tree : «Type» → Tree
  type_tree (Type-Single' v) = Alt 0 (held_single v)
  type_tree (Type-Union' o m r s c q) = Alt 1 (Node (trees (bracket_tree (Items (union_row r)) ∷ option_tree mark_tree q ∷ [])))

  -- a member of a union
  pub union_member_type_tree : UnionMemberType → Tree
  union_member_type_tree (UnionMemberType-Single' a t) = Alt 0 (Node (trees (held_attributes a ∷ non_any_type_tree t ∷ [])))
  union_member_type_tree (UnionMemberType-Union' o m r s c q) = Alt 1 (Node (trees (bracket_tree (Items (union_row r)) ∷ option_tree mark_tree q ∷ [])))

  -- the type of a result
  pub held_return : Held-NonAnyType-Promise-0-4 → Tree
  held_return (Undefined' v) = Alt 0 Mark
  held_return (Type_' v) = Alt 1 (type_tree v)

  -- the type of a record's keys
  pub held_key : Held-RecordTypes-0-4 → Tree
  held_key (RecordTypes-0-4-Byte' v) = Alt 0 Mark
  held_key (DOM' v) = Alt 1 Mark
  held_key (USV' v) = Alt 2 Mark
  held_key (RecordTypes-0-4-NonAny' v) = Alt 3 (non_any_type_tree v)

  -- a type that is no union
  pub held_single : Held-Type-Single-0 → Tree
  held_single (Any' v) = Alt 0 Mark
  held_single (Type-Single-0-NonAny' v) = Alt 1 (non_any_type_tree v)

  -- extended attributes in brackets, or none
  pub held_attributes : Held-SingleArgument-attributes → Tree
  held_attributes None' = Absent
  held_attributes (Some' o m r s c) = Present (bracket_tree (Items (attribute_row r)))

  -- an extended attribute
  pub extended_attribute_tree : ExtendedAttribute → Tree
  extended_attribute_tree (ArgList' i o m r s c) = Alt 0 (Node (trees (identifier_tree i ∷ bracket_tree (Items (argument_row r)) ∷ [])))
  extended_attribute_tree (NamedArgList' i e j o m r s c) = Alt 1 (Node (trees (identifier_tree i ∷ Mark ∷ identifier_tree j ∷ bracket_tree (Items (argument_row r)) ∷ [])))
  extended_attribute_tree (IdentList v) = Alt 2 (extended_attribute_ident_list_tree v)
  extended_attribute_tree (Ident v) = Alt 3 (extended_attribute_ident_tree v)
  extended_attribute_tree (NoArgs v) = Alt 4 (extended_attribute_no_args_tree v)

  -- extended attributes
  pub attribute_row : {m : _} → Row_of-ExtendedAttribute m → Trees
  attribute_row end_of-ExtendedAttribute = Done
  attribute_row (more_of-ExtendedAttribute v r) = Then (extended_attribute_tree v) (attribute_row r)

  -- arguments
  pub argument_row : {m : _} → Row_of-Argument m → Trees
  argument_row end_of-Argument = Done
  argument_row (more_of-Argument v r) = Then (argument_tree v) (argument_row r)

  -- members of a union
  pub union_row : {m : _} → Row_of-UnionMemberType m → Trees
  union_row end_of-UnionMemberType = Done
  union_row (more_of-UnionMemberType v r) = Then (union_member_type_tree v) (union_row r)

-- a type that is no union
abbrev pub single_type_tree : SingleType NonAnyType → Tree
single_type_tree (SingleType-Any v) = Alt 0 Mark
single_type_tree (SingleType-NonAny v) = Alt 1 (non_any_type_tree v)

-- the type of a result
abbrev pub return_type_tree : ReturnType «Type» → Tree
return_type_tree (ReturnType-Undefined v) = Alt 0 Mark
return_type_tree (ReturnType-Type_ v) = Alt 1 (type_tree v)

-- the type of a record's keys
abbrev pub record_key_type_tree : RecordKeyType NonAnyType → Tree
record_key_type_tree (RecordKeyType-Byte v) = Alt 0 Mark
record_key_type_tree (RecordKeyType-DOM v) = Alt 1 Mark
record_key_type_tree (RecordKeyType-USV v) = Alt 2 Mark
record_key_type_tree (RecordKeyType-NonAny v) = Alt 3 (non_any_type_tree v)

-- a type in a box
abbrev pub boxed_type_tree : Box «Type» → Tree
boxed_type_tree b = type_tree b.value

-- the type of a result in a box
abbrev pub boxed_return_type_tree : Box (ReturnType «Type») → Tree
boxed_return_type_tree b = return_type_tree b.value

-- the types of a record: of its keys, a comma, of its values
abbrev pub record_types_tree : RecordTypes → Tree
record_types_tree v = Node (trees (record_key_type_tree v.0.value ∷ Mark ∷ type_tree v.2.value ∷ []))

-- a sequence
abbrev pub sequence_type_tree : SequenceType «Type» → Tree
sequence_type_tree v = Node (trees (Mark ∷ generics_tree boxed_type_tree v.generics ∷ []))

-- an array that can't change
abbrev pub frozen_array_type_tree : FrozenArrayType «Type» → Tree
frozen_array_type_tree v = Node (trees (Mark ∷ generics_tree boxed_type_tree v.generics ∷ []))

-- a promise
abbrev pub promise_type_tree : PromiseType (ReturnType «Type») → Tree
promise_type_tree v = Node (trees (Mark ∷ generics_tree boxed_return_type_tree v.generics ∷ []))

-- a record
abbrev pub record_type_tree : RecordType RecordTypes → Tree
record_type_tree v = Node (trees (Mark ∷ generics_tree record_types_tree v.generics ∷ []))

-- members of a union
abbrev pub union_member_types_tree : Punctuated UnionMemberType Or → Tree
union_member_types_tree = punctuated_tree union_member_type_tree

-- members of a union in parentheses
abbrev pub union_type_tree : Parenthesized (Punctuated UnionMemberType Or) → Tree
union_type_tree = parenthesized_tree union_member_types_tree

-- arguments
abbrev pub argument_list_tree : Punctuated Argument Comma → Tree
argument_list_tree = punctuated_tree argument_tree

-- arguments in parentheses
abbrev pub arguments_tree : ParenthesizedArgumentList → Tree
arguments_tree v = bracket_tree (argument_list_tree v.body)

-- an extended attribute with arguments
abbrev pub extended_attribute_arg_list_tree : ExtendedAttributeArgList → Tree
extended_attribute_arg_list_tree v = Node (trees (identifier_tree v.identifier ∷ arguments_tree v.args ∷ []))

-- an extended attribute with a name and arguments
abbrev pub extended_attribute_named_arg_list_tree : ExtendedAttributeNamedArgList → Tree
extended_attribute_named_arg_list_tree v = Node (trees (identifier_tree v.lhs_identifier ∷ Mark ∷ identifier_tree v.rhs_identifier ∷ arguments_tree v.args ∷ []))

-- extended attributes
abbrev pub extended_attributes_tree : Punctuated ExtendedAttribute Comma → Tree
extended_attributes_tree = punctuated_tree extended_attribute_tree

-- extended attributes in brackets
abbrev pub extended_attribute_list_tree : Bracketed (Punctuated ExtendedAttribute Comma) → Tree
extended_attribute_list_tree = bracketed_tree extended_attributes_tree

-- extended attributes in brackets, or none
abbrev pub attributes_tree : Option (Bracketed (Punctuated ExtendedAttribute Comma)) → Tree
attributes_tree = option_tree extended_attribute_list_tree

-- a type with its extended attributes
abbrev pub attributed_type_tree : AttributedType → Tree
attributed_type_tree v = Node (trees (attributes_tree v.attributes ∷ type_tree v.type_ ∷ []))

-- a type with its extended attributes, where the type is neither `any` nor a union
abbrev pub attributed_non_any_type_tree : AttributedNonAnyType → Tree
attributed_non_any_type_tree v = Node (trees (attributes_tree v.attributes ∷ non_any_type_tree v.type_ ∷ []))

-- an argument: its extended attributes, `optional`, its type with extended attributes, its name, its default
abbrev pub single_argument_tree : SingleArgument → Tree
single_argument_tree v = Node (trees (attributes_tree v.attributes ∷ option_tree mark_tree v.optional ∷ attributed_type_tree v.type_ ∷ identifier_tree v.identifier ∷ option_tree default_tree v.default ∷ []))

-- any number of arguments
abbrev pub variadic_argument_tree : VariadicArgument → Tree
variadic_argument_tree v = Node (trees (attributes_tree v.attributes ∷ type_tree v.type_ ∷ Mark ∷ identifier_tree v.identifier ∷ []))

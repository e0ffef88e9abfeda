-- How types, arguments and extended attributes are rendered, which hold one another: by cases on
-- the value, as the logic holds it, in which each value is flat with the parts of what it holds.
use Rattle.std.specs.Prelude.{Option, Some, None, codes}
use Rattle.weedle_base.specs.declared.term.written.type_keywords.Optional.{Optional}
use Rattle.weedle_parts.specs.declared.literal.default.Default.{Default}
use Rattle.weedle_types.specs.declared.argument.Argument.{Argument}
use Rattle.weedle_types.specs.declared.argument.Argument.TheBlock.{Held-NonAnyType-Promise-0-4, Undefined', Type_', Held-RecordTypes-0-4, RecordTypes-0-4-Byte', DOM', USV', RecordTypes-0-4-NonAny', Held-Type-Single-0, Any', Type-Single-0-NonAny', Held-SingleArgument-attributes, None', Some', Row_of-Argument, end_of-Argument, more_of-Argument, Row_of-UnionMemberType, end_of-UnionMemberType, more_of-UnionMemberType, Row_of-ExtendedAttribute, end_of-ExtendedAttribute, more_of-ExtendedAttribute}
use Rattle.weedle_types.specs.declared.argument.Argument.TheVariants.{Single' as Argument-Single', Variadic' as Argument-Variadic'}
use Rattle.weedle_types.specs.declared.attribute.ExtendedAttribute.TheVariants.{ArgList', NamedArgList', IdentList, Ident, NoArgs}
use Rattle.weedle_types.specs.declared.attribute.ExtendedAttribute.{ExtendedAttribute}
use Rattle.weedle_types.specs.declared.types.NonAnyType.{NonAnyType}
use Rattle.weedle_types.specs.declared.types.NonAnyType.TheVariants.{Promise' as NonAnyType-Promise', Integer as NonAnyType-Integer, FloatingPoint as NonAnyType-FloatingPoint, Boolean as NonAnyType-Boolean, Byte as NonAnyType-Byte, Octet as NonAnyType-Octet, ByteString as NonAnyType-ByteString, DOMString as NonAnyType-DOMString, USVString as NonAnyType-USVString, Sequence' as NonAnyType-Sequence', Object as NonAnyType-Object, Symbol as NonAnyType-Symbol, Error as NonAnyType-Error, ArrayBuffer as NonAnyType-ArrayBuffer, DataView as NonAnyType-DataView, Int8Array as NonAnyType-Int8Array, Int16Array as NonAnyType-Int16Array, Int32Array as NonAnyType-Int32Array, Uint8Array as NonAnyType-Uint8Array, Uint16Array as NonAnyType-Uint16Array, Uint32Array as NonAnyType-Uint32Array, Uint8ClampedArray as NonAnyType-Uint8ClampedArray, Float32Array as NonAnyType-Float32Array, Float64Array as NonAnyType-Float64Array, ArrayBufferView as NonAnyType-ArrayBufferView, BufferSource as NonAnyType-BufferSource, FrozenArrayType' as NonAnyType-FrozenArrayType', RecordType' as NonAnyType-RecordType', Identifier as NonAnyType-Identifier}
use Rattle.weedle_types.specs.declared.types.UnionMemberType.{UnionMemberType}
use Rattle.weedle_types.specs.declared.types.UnionMemberType.TheVariants.{Single' as UnionMemberType-Single', Union' as UnionMemberType-Union'}
use Rattle.weedle_types.specs.declared.types.«Type».{«Type»}
use Rattle.weedle_types.specs.declared.types.«Type».TheVariants.{Single' as Type-Single', Union' as Type-Union'}
use Rattle.weedle_spell.specs.Forms.{Form, never, empty, ◌then◌, optional}
use Rattle.weedle_spell.specs.GenericParts.{may_be_null_spelling}
use Rattle.weedle_spell.specs.Leaves.{terminal, identifier_spelling}
use Rattle.weedle_spell.specs.Literals.{default_spelling}
use Rattle.weedle_spell.specs.written.PlainAttributes.{extended_attribute_ident_spelling, extended_attribute_ident_list_spelling, extended_attribute_no_args_spelling}
use Rattle.weedle_spell.specs.SimpleTypes.{integer_type_spelling, floating_point_type_spelling}
use Rattle.weedle_spell.specs.Tokens.{word}

-- a default, which is only where `optional` does
abbrev pub default_where_optional : Option Optional → Option Default → Form
default_where_optional None None = empty
default_where_optional None (Some d) = never
default_where_optional (Some o) d = optional default_spelling d

abbrev mutual
  -- an argument
  pub argument_spelling : Argument → Form
  argument_spelling (Argument-Single' a o h t i d) =
      (held_attributes_spelling a then optional (terminal (codes "optional")) o then (held_attributes_spelling h then type_spelling t) then identifier_spelling i)
      then default_where_optional o d
  argument_spelling (Argument-Variadic' a t e i) = held_attributes_spelling a then type_spelling t then terminal (codes "...") e then identifier_spelling i

  -- a type other than `any` and unions
  pub non_any_type_spelling : NonAnyType → Form
  non_any_type_spelling (NonAnyType-Promise' p l b t g) =
      terminal (codes "Promise") p then (terminal (codes "<") l then held_return_spelling t then terminal (codes ">") g)
  non_any_type_spelling (NonAnyType-Integer v) = may_be_null_spelling integer_type_spelling v
  non_any_type_spelling (NonAnyType-FloatingPoint v) = may_be_null_spelling floating_point_type_spelling v
  non_any_type_spelling (NonAnyType-Boolean v) = may_be_null_spelling (terminal (codes "boolean")) v
  non_any_type_spelling (NonAnyType-Byte v) = may_be_null_spelling (terminal (codes "byte")) v
  non_any_type_spelling (NonAnyType-Octet v) = may_be_null_spelling (terminal (codes "octet")) v
  non_any_type_spelling (NonAnyType-ByteString v) = may_be_null_spelling (terminal (codes "ByteString")) v
  non_any_type_spelling (NonAnyType-DOMString v) = may_be_null_spelling (terminal (codes "DOMString")) v
  non_any_type_spelling (NonAnyType-USVString v) = may_be_null_spelling (terminal (codes "USVString")) v
  non_any_type_spelling (NonAnyType-Sequence' s l b t g q) =
      (terminal (codes "sequence") s then (terminal (codes "<") l then type_spelling t then terminal (codes ">") g)) then optional (terminal (codes "?")) q
  non_any_type_spelling (NonAnyType-Object v) = may_be_null_spelling (terminal (codes "object")) v
  non_any_type_spelling (NonAnyType-Symbol v) = may_be_null_spelling (terminal (codes "symbol")) v
  non_any_type_spelling (NonAnyType-Error v) = may_be_null_spelling (terminal (codes "Error")) v
  non_any_type_spelling (NonAnyType-ArrayBuffer v) = may_be_null_spelling (terminal (codes "ArrayBuffer")) v
  non_any_type_spelling (NonAnyType-DataView v) = may_be_null_spelling (terminal (codes "DataView")) v
  non_any_type_spelling (NonAnyType-Int8Array v) = may_be_null_spelling (terminal (codes "Int8Array")) v
  non_any_type_spelling (NonAnyType-Int16Array v) = may_be_null_spelling (terminal (codes "Int16Array")) v
  non_any_type_spelling (NonAnyType-Int32Array v) = may_be_null_spelling (terminal (codes "Int32Array")) v
  non_any_type_spelling (NonAnyType-Uint8Array v) = may_be_null_spelling (terminal (codes "Uint8Array")) v
  non_any_type_spelling (NonAnyType-Uint16Array v) = may_be_null_spelling (terminal (codes "Uint16Array")) v
  non_any_type_spelling (NonAnyType-Uint32Array v) = may_be_null_spelling (terminal (codes "Uint32Array")) v
  non_any_type_spelling (NonAnyType-Uint8ClampedArray v) = may_be_null_spelling (terminal (codes "Uint8ClampedArray")) v
  non_any_type_spelling (NonAnyType-Float32Array v) = may_be_null_spelling (terminal (codes "Float32Array")) v
  non_any_type_spelling (NonAnyType-Float64Array v) = may_be_null_spelling (terminal (codes "Float64Array")) v
  non_any_type_spelling (NonAnyType-ArrayBufferView v) = may_be_null_spelling (terminal (codes "ArrayBufferView")) v
  non_any_type_spelling (NonAnyType-BufferSource v) = may_be_null_spelling (terminal (codes "BufferSource")) v
  non_any_type_spelling (NonAnyType-FrozenArrayType' s l b t g q) =
      (terminal (codes "FrozenArray") s then (terminal (codes "<") l then type_spelling t then terminal (codes ">") g)) then optional (terminal (codes "?")) q
  non_any_type_spelling (NonAnyType-RecordType' r l b k c d t g q) =
      (terminal (codes "record") r then (terminal (codes "<") l then (held_key_spelling k then terminal (codes ",") c then type_spelling t) then terminal (codes ">") g))
      then optional (terminal (codes "?")) q
  non_any_type_spelling (NonAnyType-Identifier v) = may_be_null_spelling identifier_spelling v

  -- a type
  pub type_spelling : «Type» → Form
  type_spelling (Type-Single' v) = held_single_spelling v
  type_spelling (Type-Union' o m r s c q) = (terminal (codes "(") o then union_row_spelling r then terminal (codes ")") c) then optional (terminal (codes "?")) q

  -- a member of a union
  pub union_member_type_spelling : UnionMemberType → Form
  union_member_type_spelling (UnionMemberType-Single' a t) = held_attributes_spelling a then non_any_type_spelling t
  union_member_type_spelling (UnionMemberType-Union' o m r s c q) =
      (terminal (codes "(") o then union_row_spelling r then terminal (codes ")") c) then optional (terminal (codes "?")) q

  -- the type of a result
  pub held_return_spelling : Held-NonAnyType-Promise-0-4 → Form
  held_return_spelling (Undefined' v) = terminal (codes "undefined") v
  held_return_spelling (Type_' v) = type_spelling v

  -- the type of a record's keys
  pub held_key_spelling : Held-RecordTypes-0-4 → Form
  held_key_spelling (RecordTypes-0-4-Byte' v) = terminal (codes "ByteString") v
  held_key_spelling (DOM' v) = terminal (codes "DOMString") v
  held_key_spelling (USV' v) = terminal (codes "USVString") v
  held_key_spelling (RecordTypes-0-4-NonAny' v) = non_any_type_spelling v

  -- a type that is no union
  pub held_single_spelling : Held-Type-Single-0 → Form
  held_single_spelling (Any' v) = terminal (codes "any") v
  held_single_spelling (Type-Single-0-NonAny' v) = non_any_type_spelling v

  -- extended attributes in brackets, or none
  pub held_attributes_spelling : Held-SingleArgument-attributes → Form
  held_attributes_spelling None' = empty
  held_attributes_spelling (Some' o m r s c) = terminal (codes "[") o then attribute_row_spelling r then terminal (codes "]") c

  -- an extended attribute
  pub extended_attribute_spelling : ExtendedAttribute → Form
  extended_attribute_spelling (ArgList' i o m r s c) = identifier_spelling i then (terminal (codes "(") o then argument_row_spelling r then terminal (codes ")") c)
  extended_attribute_spelling (NamedArgList' i e j o m r s c) =
      identifier_spelling i then terminal (codes "=") e then identifier_spelling j then (terminal (codes "(") o then argument_row_spelling r then terminal (codes ")") c)
  extended_attribute_spelling (IdentList v) = extended_attribute_ident_list_spelling v
  extended_attribute_spelling (Ident v) = extended_attribute_ident_spelling v
  extended_attribute_spelling (NoArgs v) = extended_attribute_no_args_spelling v

  -- extended attributes with commas between them
  pub attribute_row_spelling : {m : _} → Row_of-ExtendedAttribute m → Form
  attribute_row_spelling end_of-ExtendedAttribute = empty
  attribute_row_spelling (more_of-ExtendedAttribute v r) = extended_attribute_spelling v then more_attributes_spelling r

  -- extended attributes, each behind a comma
  pub more_attributes_spelling : {m : _} → Row_of-ExtendedAttribute m → Form
  more_attributes_spelling end_of-ExtendedAttribute = empty
  more_attributes_spelling (more_of-ExtendedAttribute v r) = word (codes ",") then extended_attribute_spelling v then more_attributes_spelling r

  -- arguments with commas between them
  pub argument_row_spelling : {m : _} → Row_of-Argument m → Form
  argument_row_spelling end_of-Argument = empty
  argument_row_spelling (more_of-Argument v r) = argument_spelling v then more_arguments_spelling r

  -- arguments, each behind a comma
  pub more_arguments_spelling : {m : _} → Row_of-Argument m → Form
  more_arguments_spelling end_of-Argument = empty
  more_arguments_spelling (more_of-Argument v r) = word (codes ",") then argument_spelling v then more_arguments_spelling r

  -- the members of a union with `or` between them
  pub union_row_spelling : {m : _} → Row_of-UnionMemberType m → Form
  union_row_spelling end_of-UnionMemberType = empty
  union_row_spelling (more_of-UnionMemberType v r) = union_member_type_spelling v then more_members_spelling r

  -- members of a union, each behind an `or`
  pub more_members_spelling : {m : _} → Row_of-UnionMemberType m → Form
  more_members_spelling end_of-UnionMemberType = empty
  more_members_spelling (more_of-UnionMemberType v r) = word (codes "or") then union_member_type_spelling v then more_members_spelling r

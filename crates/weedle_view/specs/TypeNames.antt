-- The names that types speak of, in the order of the text.
--
-- The logic holds a value that leads back to itself in types of its own, as the trees of these
-- types are written (weedle_types/specs/Trees.antt): what one value holds of another (`Held-..`),
-- the items of a list (`Row_of-..`), and the variants with all their fields one by one (`Single'`).
-- The first definition goes over these. Those behind it say the same of the types as they are
-- written.
use Rattle.std.specs.Prelude.{List, [], ◌∷◌, ◌++◌, None, Some, flat_map}
use Rattle.weedle_parts.specs.declared.common.brackets.Bracketed.{Bracketed}
use Rattle.weedle_parts.specs.declared.common.identifier.Identifier.{Identifier}
use Rattle.weedle_parts.specs.declared.common.punctuated.Punctuated.{Punctuated}
use Rattle.weedle_parts.specs.declared.types.const_type.ConstType.{ConstType}
use Rattle.weedle_parts.specs.declared.types.const_type.ConstType.TheVariants.{Integer as ConstInteger, FloatingPoint as ConstFloatingPoint, Boolean as ConstBoolean, Byte as ConstByte, Octet as ConstOctet, Identifier as ConstIdentifier}
use Rattle.weedle_base.specs.declared.term.written.symbols.Comma.{Comma}
use Rattle.weedle_types.specs.PartTrees.{Attributes}
use Rattle.weedle_types.specs.declared.argument.Argument.TheBlock.{Held-NonAnyType-Promise-0-4, Undefined', Type_', Held-RecordTypes-0-4, RecordTypes-0-4-Byte', DOM', USV', RecordTypes-0-4-NonAny', Held-Type-Single-0, Any', Type-Single-0-NonAny', Held-SingleArgument-attributes, None', Some', Row_of-Argument, end_of-Argument, more_of-Argument, Row_of-UnionMemberType, end_of-UnionMemberType, more_of-UnionMemberType, Row_of-ExtendedAttribute, end_of-ExtendedAttribute, more_of-ExtendedAttribute}
use Rattle.weedle_types.specs.declared.argument.Argument.TheVariants.{Single' as Argument-Single', Variadic' as Argument-Variadic'}
use Rattle.weedle_types.specs.declared.argument.Argument.{Argument}
use Rattle.weedle_types.specs.declared.argument.ParenthesizedArgumentList.{ParenthesizedArgumentList}
use Rattle.weedle_types.specs.declared.attribute.ExtendedAttribute.TheVariants.{ArgList', NamedArgList', IdentList, Ident, NoArgs}
use Rattle.weedle_types.specs.declared.attribute.ExtendedAttribute.{ExtendedAttribute}
use Rattle.weedle_types.specs.declared.formers.RecordKeyType.TheVariants.{Byte as RecordKeyType-Byte, DOM as RecordKeyType-DOM, USV as RecordKeyType-USV, NonAny as RecordKeyType-NonAny}
use Rattle.weedle_types.specs.declared.formers.RecordKeyType.{RecordKeyType}
use Rattle.weedle_types.specs.declared.formers.ReturnType.TheVariants.{Undefined as ReturnType-Undefined, Type_ as ReturnType-Type_}
use Rattle.weedle_types.specs.declared.formers.ReturnType.{ReturnType}
use Rattle.weedle_types.specs.declared.types.AttributedType.{AttributedType}
use Rattle.weedle_types.specs.declared.types.NonAnyType.TheVariants.{Promise' as NonAnyType-Promise', Integer as NonAnyType-Integer, FloatingPoint as NonAnyType-FloatingPoint, Boolean as NonAnyType-Boolean, Byte as NonAnyType-Byte, Octet as NonAnyType-Octet, ByteString as NonAnyType-ByteString, DOMString as NonAnyType-DOMString, USVString as NonAnyType-USVString, Sequence' as NonAnyType-Sequence', Object as NonAnyType-Object, Symbol as NonAnyType-Symbol, Error as NonAnyType-Error, ArrayBuffer as NonAnyType-ArrayBuffer, DataView as NonAnyType-DataView, Int8Array as NonAnyType-Int8Array, Int16Array as NonAnyType-Int16Array, Int32Array as NonAnyType-Int32Array, Uint8Array as NonAnyType-Uint8Array, Uint16Array as NonAnyType-Uint16Array, Uint32Array as NonAnyType-Uint32Array, Uint8ClampedArray as NonAnyType-Uint8ClampedArray, Float32Array as NonAnyType-Float32Array, Float64Array as NonAnyType-Float64Array, ArrayBufferView as NonAnyType-ArrayBufferView, BufferSource as NonAnyType-BufferSource, FrozenArrayType' as NonAnyType-FrozenArrayType', RecordType' as NonAnyType-RecordType', Identifier as NonAnyType-Identifier}
use Rattle.weedle_types.specs.declared.types.NonAnyType.{NonAnyType}
use Rattle.weedle_types.specs.declared.types.RecordTypes.{RecordTypes}
use Rattle.weedle_types.specs.declared.types.UnionMemberType.TheVariants.{Single' as UnionMemberType-Single', Union' as UnionMemberType-Union'}
use Rattle.weedle_types.specs.declared.types.UnionMemberType.{UnionMemberType}
use Rattle.weedle_types.specs.declared.types.«Type».TheVariants.{Single' as Type-Single', Union' as Type-Union'}
use Rattle.weedle_types.specs.declared.types.«Type».{«Type»}

abbrev mutual
  -- of an argument: in its extended attributes, in those of its type, and in the type
  pub names_in_argument : Argument → List Identifier
  names_in_argument (Argument-Single' a o h t i d) = names_in_held_attributes a ++ (names_in_held_attributes h ++ names_in_type t)
  names_in_argument (Argument-Variadic' a t e i) = names_in_held_attributes a ++ names_in_type t

  -- of a type other than `any` and unions: its own name, or those in the types that it is over
  pub names_in_non_any_type : NonAnyType → List Identifier
  names_in_non_any_type (NonAnyType-Promise' p l b t g) = names_in_held_return t
  names_in_non_any_type (NonAnyType-Integer v) = []
  names_in_non_any_type (NonAnyType-FloatingPoint v) = []
  names_in_non_any_type (NonAnyType-Boolean v) = []
  names_in_non_any_type (NonAnyType-Byte v) = []
  names_in_non_any_type (NonAnyType-Octet v) = []
  names_in_non_any_type (NonAnyType-ByteString v) = []
  names_in_non_any_type (NonAnyType-DOMString v) = []
  names_in_non_any_type (NonAnyType-USVString v) = []
  names_in_non_any_type (NonAnyType-Sequence' s l b t g q) = names_in_type t
  names_in_non_any_type (NonAnyType-Object v) = []
  names_in_non_any_type (NonAnyType-Symbol v) = []
  names_in_non_any_type (NonAnyType-Error v) = []
  names_in_non_any_type (NonAnyType-ArrayBuffer v) = []
  names_in_non_any_type (NonAnyType-DataView v) = []
  names_in_non_any_type (NonAnyType-Int8Array v) = []
  names_in_non_any_type (NonAnyType-Int16Array v) = []
  names_in_non_any_type (NonAnyType-Int32Array v) = []
  names_in_non_any_type (NonAnyType-Uint8Array v) = []
  names_in_non_any_type (NonAnyType-Uint16Array v) = []
  names_in_non_any_type (NonAnyType-Uint32Array v) = []
  names_in_non_any_type (NonAnyType-Uint8ClampedArray v) = []
  names_in_non_any_type (NonAnyType-Float32Array v) = []
  names_in_non_any_type (NonAnyType-Float64Array v) = []
  names_in_non_any_type (NonAnyType-ArrayBufferView v) = []
  names_in_non_any_type (NonAnyType-BufferSource v) = []
  names_in_non_any_type (NonAnyType-FrozenArrayType' s l b t g q) = names_in_type t
  names_in_non_any_type (NonAnyType-RecordType' r l b k c d t g q) = names_in_held_key k ++ names_in_type t
  names_in_non_any_type (NonAnyType-Identifier v) = v.type_ ∷ []

  -- of a type
  pub names_in_type : «Type» → List Identifier
  names_in_type (Type-Single' v) = names_in_held_single v
  names_in_type (Type-Union' o m r s c q) = names_in_union_row r

  -- of a member of a union: in its extended attributes, and in its type
  pub names_in_union_member : UnionMemberType → List Identifier
  names_in_union_member (UnionMemberType-Single' a t) = names_in_held_attributes a ++ names_in_non_any_type t
  names_in_union_member (UnionMemberType-Union' o m r s c q) = names_in_union_row r

  -- of the type of a result
  pub names_in_held_return : Held-NonAnyType-Promise-0-4 → List Identifier
  names_in_held_return (Undefined' v) = []
  names_in_held_return (Type_' v) = names_in_type v

  -- of the type of a record's keys
  pub names_in_held_key : Held-RecordTypes-0-4 → List Identifier
  names_in_held_key (RecordTypes-0-4-Byte' v) = []
  names_in_held_key (DOM' v) = []
  names_in_held_key (USV' v) = []
  names_in_held_key (RecordTypes-0-4-NonAny' v) = names_in_non_any_type v

  -- of a type that is no union
  pub names_in_held_single : Held-Type-Single-0 → List Identifier
  names_in_held_single (Any' v) = []
  names_in_held_single (Type-Single-0-NonAny' v) = names_in_non_any_type v

  -- of extended attributes in brackets, or none
  pub names_in_held_attributes : Held-SingleArgument-attributes → List Identifier
  names_in_held_attributes None' = []
  names_in_held_attributes (Some' o m r s c) = names_in_attribute_row r

  -- of an extended attribute: in its arguments
  pub names_in_attribute : ExtendedAttribute → List Identifier
  names_in_attribute (ArgList' i o m r s c) = names_in_argument_row r
  names_in_attribute (NamedArgList' i e j o m r s c) = names_in_argument_row r
  names_in_attribute (IdentList v) = []
  names_in_attribute (Ident v) = []
  names_in_attribute (NoArgs v) = []

  -- of extended attributes one after another
  pub names_in_attribute_row : {m : _} → Row_of-ExtendedAttribute m → List Identifier
  names_in_attribute_row end_of-ExtendedAttribute = []
  names_in_attribute_row (more_of-ExtendedAttribute v r) = names_in_attribute v ++ names_in_attribute_row r

  -- of arguments one after another
  pub names_in_argument_row : {m : _} → Row_of-Argument m → List Identifier
  names_in_argument_row end_of-Argument = []
  names_in_argument_row (more_of-Argument v r) = names_in_argument v ++ names_in_argument_row r

  -- of the members of a union one after another
  pub names_in_union_row : {m : _} → Row_of-UnionMemberType m → List Identifier
  names_in_union_row end_of-UnionMemberType = []
  names_in_union_row (more_of-UnionMemberType v r) = names_in_union_member v ++ names_in_union_row r

-- of the type of a result
abbrev pub names_in_return_type : ReturnType «Type» → List Identifier
names_in_return_type (ReturnType-Undefined v) = []
names_in_return_type (ReturnType-Type_ v) = names_in_type v

-- of the type of a record's keys
abbrev pub names_in_key_type : RecordKeyType NonAnyType → List Identifier
names_in_key_type (RecordKeyType-Byte v) = []
names_in_key_type (RecordKeyType-DOM v) = []
names_in_key_type (RecordKeyType-USV v) = []
names_in_key_type (RecordKeyType-NonAny v) = names_in_non_any_type v

-- of the types of a record: of its keys, then of its values
abbrev pub names_in_record_types : RecordTypes → List Identifier
names_in_record_types v = names_in_key_type v.0.value ++ names_in_type v.2.value

-- of arguments in parentheses
abbrev pub names_in_arguments : ParenthesizedArgumentList → List Identifier
names_in_arguments v = flat_map names_in_argument v.body.list.items

-- of extended attributes in brackets
abbrev pub names_in_attribute_list : Bracketed (Punctuated ExtendedAttribute Comma) → List Identifier
names_in_attribute_list v = flat_map names_in_attribute v.body.list.items

-- of extended attributes in brackets, where present
abbrev pub names_in_attributes : Attributes → List Identifier
names_in_attributes None = []
names_in_attributes (Some v) = names_in_attribute_list v

-- of a type with its extended attributes
abbrev pub names_in_attributed_type : AttributedType → List Identifier
names_in_attributed_type v = names_in_attributes v.attributes ++ names_in_type v.type_

-- of the type of a constant
abbrev pub names_in_const_type : ConstType → List Identifier
names_in_const_type (ConstInteger v) = []
names_in_const_type (ConstFloatingPoint v) = []
names_in_const_type (ConstBoolean v) = []
names_in_const_type (ConstByte v) = []
names_in_const_type (ConstOctet v) = []
names_in_const_type (ConstIdentifier v) = v.type_ ∷ []

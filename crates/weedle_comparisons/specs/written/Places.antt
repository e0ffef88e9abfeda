-- The place of each variant in its declaration, counted from 0. For a type that leads back to itself the variants
-- are as the logic holds them, flat, with the parts of what they hold. Written by tools/orders.py, and not edited by hand.
use Rattle.std.specs.Prelude.{ℕ}
use Rattle.weedle_parts.specs.declared.types.const_type.ConstType.{ConstType}
use Rattle.weedle_parts.specs.declared.types.const_type.ConstType.TheVariants.{Integer as ConstType-Integer, FloatingPoint as ConstType-FloatingPoint, Boolean as ConstType-Boolean, Byte as ConstType-Byte, Octet as ConstType-Octet, Identifier as ConstType-Identifier}
use Rattle.weedle_parts.specs.declared.types.floating_point.FloatingPointType.{FloatingPointType}
use Rattle.weedle_parts.specs.declared.types.floating_point.FloatingPointType.TheVariants.{Float as FloatingPointType-Float, Double as FloatingPointType-Double}
use Rattle.weedle_parts.specs.declared.types.integer.IntegerType.{IntegerType}
use Rattle.weedle_parts.specs.declared.types.integer.IntegerType.TheVariants.{LongLong as IntegerType-LongLong, Long as IntegerType-Long, Short as IntegerType-Short}
use Rattle.weedle_parts.specs.declared.literal.float.FloatLit.{FloatLit}
use Rattle.weedle_parts.specs.declared.literal.float.FloatLit.TheVariants.{Value as FloatLit-Value, NegInfinity as FloatLit-NegInfinity, Infinity as FloatLit-Infinity, NaN as FloatLit-NaN}
use Rattle.weedle_parts.specs.declared.literal.integer.IntegerLit.{IntegerLit}
use Rattle.weedle_parts.specs.declared.literal.integer.IntegerLit.TheVariants.{Dec as IntegerLit-Dec, Hex as IntegerLit-Hex, Oct as IntegerLit-Oct}
use Rattle.weedle_parts.specs.declared.literal.value.DefaultValue.{DefaultValue}
use Rattle.weedle_parts.specs.declared.literal.value.DefaultValue.TheVariants.{Boolean as DefaultValue-Boolean, EmptyArray as DefaultValue-EmptyArray, EmptyDictionary as DefaultValue-EmptyDictionary, Float as DefaultValue-Float, Integer as DefaultValue-Integer, Null as DefaultValue-Null, String as DefaultValue-String}
use Rattle.weedle_parts.specs.declared.literal.value.ConstValue.{ConstValue}
use Rattle.weedle_parts.specs.declared.literal.value.ConstValue.TheVariants.{Boolean as ConstValue-Boolean, Float as ConstValue-Float, Integer as ConstValue-Integer, Null as ConstValue-Null}
use Rattle.weedle_parts.specs.declared.modifier.Special.{Special}
use Rattle.weedle_parts.specs.declared.modifier.Special.TheVariants.{Getter as Special-Getter, Setter as Special-Setter, Deleter as Special-Deleter, LegacyCaller as Special-LegacyCaller}
use Rattle.weedle_parts.specs.declared.modifier.StringifierOrInheritOrStatic.{StringifierOrInheritOrStatic}
use Rattle.weedle_parts.specs.declared.modifier.StringifierOrInheritOrStatic.TheVariants.{Stringifier as StringifierOrInheritOrStatic-Stringifier, Inherit as StringifierOrInheritOrStatic-Inherit, Static as StringifierOrInheritOrStatic-Static}
use Rattle.weedle_parts.specs.declared.modifier.StringifierOrStatic.{StringifierOrStatic}
use Rattle.weedle_parts.specs.declared.modifier.StringifierOrStatic.TheVariants.{Stringifier as StringifierOrStatic-Stringifier, Static as StringifierOrStatic-Static}
use Rattle.weedle_types.specs.declared.argument.Argument.{Argument}
use Rattle.weedle_types.specs.declared.argument.Argument.TheVariants.{Single' as Argument-Single', Variadic' as Argument-Variadic'}
use Rattle.weedle_types.specs.declared.attribute.ExtendedAttribute.{ExtendedAttribute}
use Rattle.weedle_types.specs.declared.attribute.ExtendedAttribute.TheVariants.{ArgList' as ExtendedAttribute-ArgList', NamedArgList' as ExtendedAttribute-NamedArgList', IdentList as ExtendedAttribute-IdentList, Ident as ExtendedAttribute-Ident, NoArgs as ExtendedAttribute-NoArgs}
use Rattle.weedle_types.specs.declared.attribute.IdentifierOrString.{IdentifierOrString}
use Rattle.weedle_types.specs.declared.attribute.IdentifierOrString.TheVariants.{Identifier as IdentifierOrString-Identifier, String as IdentifierOrString-String}
use Rattle.weedle_types.specs.declared.formers.SingleType.{SingleType}
use Rattle.weedle_types.specs.declared.formers.SingleType.TheVariants.{Any as SingleType-Any, NonAny as SingleType-NonAny}
use Rattle.weedle_types.specs.declared.formers.RecordKeyType.{RecordKeyType}
use Rattle.weedle_types.specs.declared.formers.RecordKeyType.TheVariants.{Byte as RecordKeyType-Byte, DOM as RecordKeyType-DOM, USV as RecordKeyType-USV, NonAny as RecordKeyType-NonAny}
use Rattle.weedle_types.specs.declared.formers.ReturnType.{ReturnType}
use Rattle.weedle_types.specs.declared.formers.ReturnType.TheVariants.{Undefined as ReturnType-Undefined, Type_ as ReturnType-Type_}
use Rattle.weedle_types.specs.declared.types.«Type».{«Type»}
use Rattle.weedle_types.specs.declared.types.«Type».TheVariants.{Single' as Type-Single', Union' as Type-Union'}
use Rattle.weedle_types.specs.declared.types.NonAnyType.{NonAnyType}
use Rattle.weedle_types.specs.declared.types.NonAnyType.TheVariants.{Promise' as NonAnyType-Promise', Integer as NonAnyType-Integer, FloatingPoint as NonAnyType-FloatingPoint, Boolean as NonAnyType-Boolean, Byte as NonAnyType-Byte, Octet as NonAnyType-Octet, ByteString as NonAnyType-ByteString, DOMString as NonAnyType-DOMString, USVString as NonAnyType-USVString, Sequence' as NonAnyType-Sequence', Object as NonAnyType-Object, Symbol as NonAnyType-Symbol, Error as NonAnyType-Error, ArrayBuffer as NonAnyType-ArrayBuffer, DataView as NonAnyType-DataView, Int8Array as NonAnyType-Int8Array, Int16Array as NonAnyType-Int16Array, Int32Array as NonAnyType-Int32Array, Uint8Array as NonAnyType-Uint8Array, Uint16Array as NonAnyType-Uint16Array, Uint32Array as NonAnyType-Uint32Array, Uint8ClampedArray as NonAnyType-Uint8ClampedArray, Float32Array as NonAnyType-Float32Array, Float64Array as NonAnyType-Float64Array, ArrayBufferView as NonAnyType-ArrayBufferView, BufferSource as NonAnyType-BufferSource, FrozenArrayType' as NonAnyType-FrozenArrayType', RecordType' as NonAnyType-RecordType', Identifier as NonAnyType-Identifier}
use Rattle.weedle_types.specs.declared.types.UnionMemberType.{UnionMemberType}
use Rattle.weedle_types.specs.declared.types.UnionMemberType.TheVariants.{Single' as UnionMemberType-Single', Union' as UnionMemberType-Union'}
use Rattle.weedle_iterables.specs.declared.async_iterable.AsyncIterableInterfaceMember.{AsyncIterableInterfaceMember}
use Rattle.weedle_iterables.specs.declared.async_iterable.AsyncIterableInterfaceMember.TheVariants.{Single as AsyncIterableInterfaceMember-Single, Double as AsyncIterableInterfaceMember-Double}
use Rattle.weedle_iterables.specs.declared.iterable.IterableInterfaceMember.{IterableInterfaceMember}
use Rattle.weedle_iterables.specs.declared.iterable.IterableInterfaceMember.TheVariants.{Single as IterableInterfaceMember-Single, Double as IterableInterfaceMember-Double}
use Rattle.weedle_namespaces.specs.declared.namespace.NamespaceMember.{NamespaceMember}
use Rattle.weedle_namespaces.specs.declared.namespace.NamespaceMember.TheVariants.{Operation as NamespaceMember-Operation, Attribute as NamespaceMember-Attribute}
use Rattle.weedle_interfaces.specs.declared.member.InterfaceMember.{InterfaceMember}
use Rattle.weedle_interfaces.specs.declared.member.InterfaceMember.TheVariants.{Const as InterfaceMember-Const, Attribute as InterfaceMember-Attribute, Constructor as InterfaceMember-Constructor, Operation as InterfaceMember-Operation, Iterable as InterfaceMember-Iterable, AsyncIterable as InterfaceMember-AsyncIterable, Maplike as InterfaceMember-Maplike, Setlike as InterfaceMember-Setlike, Stringifier as InterfaceMember-Stringifier}
use Rattle.weedle_mixins.specs.declared.mixin.MixinMember.{MixinMember}
use Rattle.weedle_mixins.specs.declared.mixin.MixinMember.TheVariants.{Const as MixinMember-Const, Operation as MixinMember-Operation, Attribute as MixinMember-Attribute, Stringifier as MixinMember-Stringifier}
use Rattle.weedle_idl.specs.declared.definition.Definition.{Definition}
use Rattle.weedle_idl.specs.declared.definition.Definition.TheVariants.{Callback as Definition-Callback, CallbackInterface as Definition-CallbackInterface, Interface as Definition-Interface, InterfaceMixin as Definition-InterfaceMixin, Namespace as Definition-Namespace, Dictionary as Definition-Dictionary, PartialInterface as Definition-PartialInterface, PartialInterfaceMixin as Definition-PartialInterfaceMixin, PartialDictionary as Definition-PartialDictionary, PartialNamespace as Definition-PartialNamespace, Enum as Definition-Enum, Typedef as Definition-Typedef, IncludesStatement as Definition-IncludesStatement, Implements as Definition-Implements}

-- `ConstType`
abbrev pub const_type_place : ConstType → ℕ
const_type_place (ConstType-Integer _) = 0
const_type_place (ConstType-FloatingPoint _) = 1
const_type_place (ConstType-Boolean _) = 2
const_type_place (ConstType-Byte _) = 3
const_type_place (ConstType-Octet _) = 4
const_type_place (ConstType-Identifier _) = 5

-- `FloatingPointType`
abbrev pub floating_point_type_place : FloatingPointType → ℕ
floating_point_type_place (FloatingPointType-Float _) = 0
floating_point_type_place (FloatingPointType-Double _) = 1

-- `IntegerType`
abbrev pub integer_type_place : IntegerType → ℕ
integer_type_place (IntegerType-LongLong _) = 0
integer_type_place (IntegerType-Long _) = 1
integer_type_place (IntegerType-Short _) = 2

-- `FloatLit`
abbrev pub float_lit_place : FloatLit → ℕ
float_lit_place (FloatLit-Value _) = 0
float_lit_place (FloatLit-NegInfinity _) = 1
float_lit_place (FloatLit-Infinity _) = 2
float_lit_place (FloatLit-NaN _) = 3

-- `IntegerLit`
abbrev pub integer_lit_place : IntegerLit → ℕ
integer_lit_place (IntegerLit-Dec _) = 0
integer_lit_place (IntegerLit-Hex _) = 1
integer_lit_place (IntegerLit-Oct _) = 2

-- `DefaultValue`
abbrev pub default_value_place : DefaultValue → ℕ
default_value_place (DefaultValue-Boolean _) = 0
default_value_place (DefaultValue-EmptyArray _) = 1
default_value_place (DefaultValue-EmptyDictionary _) = 2
default_value_place (DefaultValue-Float _) = 3
default_value_place (DefaultValue-Integer _) = 4
default_value_place (DefaultValue-Null _) = 5
default_value_place (DefaultValue-String _) = 6

-- `ConstValue`
abbrev pub const_value_place : ConstValue → ℕ
const_value_place (ConstValue-Boolean _) = 0
const_value_place (ConstValue-Float _) = 1
const_value_place (ConstValue-Integer _) = 2
const_value_place (ConstValue-Null _) = 3

-- `Special`
abbrev pub special_place : Special → ℕ
special_place (Special-Getter _) = 0
special_place (Special-Setter _) = 1
special_place (Special-Deleter _) = 2
special_place (Special-LegacyCaller _) = 3

-- `StringifierOrInheritOrStatic`
abbrev pub stringifier_or_inherit_or_static_place : StringifierOrInheritOrStatic → ℕ
stringifier_or_inherit_or_static_place (StringifierOrInheritOrStatic-Stringifier _) = 0
stringifier_or_inherit_or_static_place (StringifierOrInheritOrStatic-Inherit _) = 1
stringifier_or_inherit_or_static_place (StringifierOrInheritOrStatic-Static _) = 2

-- `StringifierOrStatic`
abbrev pub stringifier_or_static_place : StringifierOrStatic → ℕ
stringifier_or_static_place (StringifierOrStatic-Stringifier _) = 0
stringifier_or_static_place (StringifierOrStatic-Static _) = 1

-- `Argument`
abbrev pub argument_place : Argument → ℕ
argument_place (Argument-Single' _ _ _ _ _ _) = 0
argument_place (Argument-Variadic' _ _ _ _) = 1

-- `ExtendedAttribute`
abbrev pub extended_attribute_place : ExtendedAttribute → ℕ
extended_attribute_place (ExtendedAttribute-ArgList' _ _ _ _ _ _) = 0
extended_attribute_place (ExtendedAttribute-NamedArgList' _ _ _ _ _ _ _ _) = 1
extended_attribute_place (ExtendedAttribute-IdentList _) = 2
extended_attribute_place (ExtendedAttribute-Ident _) = 3
extended_attribute_place (ExtendedAttribute-NoArgs _) = 4

-- `IdentifierOrString`
abbrev pub identifier_or_string_place : IdentifierOrString → ℕ
identifier_or_string_place (IdentifierOrString-Identifier _) = 0
identifier_or_string_place (IdentifierOrString-String _) = 1

-- `SingleType`
abbrev pub single_type_place : {T : Type 0} → SingleType T → ℕ
single_type_place (SingleType-Any _) = 0
single_type_place (SingleType-NonAny _) = 1

-- `RecordKeyType`
abbrev pub record_key_type_place : {T : Type 0} → RecordKeyType T → ℕ
record_key_type_place (RecordKeyType-Byte _) = 0
record_key_type_place (RecordKeyType-DOM _) = 1
record_key_type_place (RecordKeyType-USV _) = 2
record_key_type_place (RecordKeyType-NonAny _) = 3

-- `ReturnType`
abbrev pub return_type_place : {T : Type 0} → ReturnType T → ℕ
return_type_place (ReturnType-Undefined _) = 0
return_type_place (ReturnType-Type_ _) = 1

-- `Type`
abbrev pub type_place : «Type» → ℕ
type_place (Type-Single' _) = 0
type_place (Type-Union' _ _ _ _ _ _) = 1

-- `NonAnyType`
abbrev pub non_any_type_place : NonAnyType → ℕ
non_any_type_place (NonAnyType-Promise' _ _ _ _ _) = 0
non_any_type_place (NonAnyType-Integer _) = 1
non_any_type_place (NonAnyType-FloatingPoint _) = 2
non_any_type_place (NonAnyType-Boolean _) = 3
non_any_type_place (NonAnyType-Byte _) = 4
non_any_type_place (NonAnyType-Octet _) = 5
non_any_type_place (NonAnyType-ByteString _) = 6
non_any_type_place (NonAnyType-DOMString _) = 7
non_any_type_place (NonAnyType-USVString _) = 8
non_any_type_place (NonAnyType-Sequence' _ _ _ _ _ _) = 9
non_any_type_place (NonAnyType-Object _) = 10
non_any_type_place (NonAnyType-Symbol _) = 11
non_any_type_place (NonAnyType-Error _) = 12
non_any_type_place (NonAnyType-ArrayBuffer _) = 13
non_any_type_place (NonAnyType-DataView _) = 14
non_any_type_place (NonAnyType-Int8Array _) = 15
non_any_type_place (NonAnyType-Int16Array _) = 16
non_any_type_place (NonAnyType-Int32Array _) = 17
non_any_type_place (NonAnyType-Uint8Array _) = 18
non_any_type_place (NonAnyType-Uint16Array _) = 19
non_any_type_place (NonAnyType-Uint32Array _) = 20
non_any_type_place (NonAnyType-Uint8ClampedArray _) = 21
non_any_type_place (NonAnyType-Float32Array _) = 22
non_any_type_place (NonAnyType-Float64Array _) = 23
non_any_type_place (NonAnyType-ArrayBufferView _) = 24
non_any_type_place (NonAnyType-BufferSource _) = 25
non_any_type_place (NonAnyType-FrozenArrayType' _ _ _ _ _ _) = 26
non_any_type_place (NonAnyType-RecordType' _ _ _ _ _ _ _ _ _) = 27
non_any_type_place (NonAnyType-Identifier _) = 28

-- `UnionMemberType`
abbrev pub union_member_type_place : UnionMemberType → ℕ
union_member_type_place (UnionMemberType-Single' _ _) = 0
union_member_type_place (UnionMemberType-Union' _ _ _ _ _ _) = 1

-- `AsyncIterableInterfaceMember`
abbrev pub async_iterable_interface_member_place : AsyncIterableInterfaceMember → ℕ
async_iterable_interface_member_place (AsyncIterableInterfaceMember-Single _) = 0
async_iterable_interface_member_place (AsyncIterableInterfaceMember-Double _) = 1

-- `IterableInterfaceMember`
abbrev pub iterable_interface_member_place : IterableInterfaceMember → ℕ
iterable_interface_member_place (IterableInterfaceMember-Single _) = 0
iterable_interface_member_place (IterableInterfaceMember-Double _) = 1

-- `NamespaceMember`
abbrev pub namespace_member_place : NamespaceMember → ℕ
namespace_member_place (NamespaceMember-Operation _) = 0
namespace_member_place (NamespaceMember-Attribute _) = 1

-- `InterfaceMember`
abbrev pub interface_member_place : InterfaceMember → ℕ
interface_member_place (InterfaceMember-Const _) = 0
interface_member_place (InterfaceMember-Attribute _) = 1
interface_member_place (InterfaceMember-Constructor _) = 2
interface_member_place (InterfaceMember-Operation _) = 3
interface_member_place (InterfaceMember-Iterable _) = 4
interface_member_place (InterfaceMember-AsyncIterable _) = 5
interface_member_place (InterfaceMember-Maplike _) = 6
interface_member_place (InterfaceMember-Setlike _) = 7
interface_member_place (InterfaceMember-Stringifier _) = 8

-- `MixinMember`
abbrev pub mixin_member_place : MixinMember → ℕ
mixin_member_place (MixinMember-Const _) = 0
mixin_member_place (MixinMember-Operation _) = 1
mixin_member_place (MixinMember-Attribute _) = 2
mixin_member_place (MixinMember-Stringifier _) = 3

-- `Definition`
abbrev pub definition_place : Definition → ℕ
definition_place (Definition-Callback _) = 0
definition_place (Definition-CallbackInterface _) = 1
definition_place (Definition-Interface _) = 2
definition_place (Definition-InterfaceMixin _) = 3
definition_place (Definition-Namespace _) = 4
definition_place (Definition-Dictionary _) = 5
definition_place (Definition-PartialInterface _) = 6
definition_place (Definition-PartialInterfaceMixin _) = 7
definition_place (Definition-PartialDictionary _) = 8
definition_place (Definition-PartialNamespace _) = 9
definition_place (Definition-Enum _) = 10
definition_place (Definition-Typedef _) = 11
definition_place (Definition-IncludesStatement _) = 12
definition_place (Definition-Implements _) = 13

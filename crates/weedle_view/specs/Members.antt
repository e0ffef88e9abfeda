-- One view of the members of all lists.
use Rattle.std.specs.Prelude.{List, [], map, Option, None, Some, option_copied}
use Rattle.weedle_iterables.specs.declared.async_iterable.AsyncIterableInterfaceMember.{AsyncIterableInterfaceMember}
use Rattle.weedle_iterables.specs.declared.async_iterable.AsyncIterableInterfaceMember.TheVariants.{Single as AsyncSingle, Double as AsyncDouble}
use Rattle.weedle_idl.specs.declared.definition.Definition.{Definition}
use Rattle.weedle_idl.specs.declared.definition.Definition.TheVariants.{Callback as IsCallback, CallbackInterface as IsCallbackInterface, Interface as IsInterface, InterfaceMixin as IsInterfaceMixin, Namespace as IsNamespace, Dictionary as IsDictionary, PartialInterface as IsPartialInterface, PartialInterfaceMixin as IsPartialInterfaceMixin, PartialDictionary as IsPartialDictionary, PartialNamespace as IsPartialNamespace, Enum as IsEnum, Typedef as IsTypedef, IncludesStatement as IsIncludesStatement, Implements as IsImplements}
use Rattle.weedle_interfaces.specs.declared.member.InterfaceMember.{InterfaceMember}
use Rattle.weedle_interfaces.specs.declared.member.InterfaceMember.TheVariants.{Const as InterfaceConst, Attribute as InterfaceAttribute, Constructor as InterfaceConstructor, Operation as InterfaceOperation, Iterable as InterfaceIterable, AsyncIterable as InterfaceAsyncIterable, Maplike as InterfaceMaplike, Setlike as InterfaceSetlike, Stringifier as InterfaceStringifier}
use Rattle.weedle_iterables.specs.declared.iterable.IterableInterfaceMember.{IterableInterfaceMember}
use Rattle.weedle_iterables.specs.declared.iterable.IterableInterfaceMember.TheVariants.{Single as IterableSingle, Double as IterableDouble}
use Rattle.weedle_members.specs.declared.constant.ConstMember.{ConstMember}
use Rattle.weedle_members.specs.declared.stringifier.StringifierMember.{StringifierMember}
use Rattle.weedle_mixins.specs.declared.mixin.MixinMember.{MixinMember}
use Rattle.weedle_mixins.specs.declared.mixin.MixinMember.TheVariants.{Const as MixinConst, Operation as MixinOperation, Attribute as MixinAttribute, Stringifier as MixinStringifier}
use Rattle.weedle_namespaces.specs.declared.dictionary.DictionaryMember.{DictionaryMember}
use Rattle.weedle_namespaces.specs.declared.namespace.NamespaceMember.{NamespaceMember}
use Rattle.weedle_namespaces.specs.declared.namespace.NamespaceMember.TheVariants.{Operation as NamespaceOperation, Attribute as NamespaceAttribute}
use Rattle.weedle_parts.specs.declared.common.docstring.Docstring.{Docstring}
use Rattle.weedle_parts.specs.declared.common.identifier.Identifier.{Identifier}
use Rattle.weedle_parts.specs.declared.types.const_type.ConstType.{ConstType}
use Rattle.weedle_types.specs.PartTrees.{Attributes}
use Rattle.weedle_types.specs.declared.argument.ParenthesizedArgumentList.{ParenthesizedArgumentList}
use Rattle.weedle_types.specs.declared.formers.ReturnType.{ReturnType}
use Rattle.weedle_types.specs.declared.types.AttributedType.{AttributedType}
use Rattle.weedle_types.specs.declared.types.«Type».{«Type»}
use Rattle.weedle_view.specs.declared.kind.MemberKind.{MemberKind}
use Rattle.weedle_view.specs.declared.kind.MemberKind.TheVariants.{Const, Attribute, Constructor, Operation, Iterable, AsyncIterable, Maplike, Setlike, Stringifier, Field}
use Rattle.weedle_view.specs.declared.member.MemberView.{MemberView}

-- what a member has: each part where the member has it
pub record View : Type 0 where
  pub kind : MemberKind
  pub docstring : Option Docstring
  pub attributes : Attributes
  pub identifier : Option Identifier
  pub const_type : Option ConstType
  pub return_type : Option (ReturnType «Type»)
  pub key_type : Option AttributedType
  pub type_attributes : Attributes
  pub type_ : Option «Type»
  pub arguments : Option ParenthesizedArgumentList

-- what is where a view refers to
abbrev pub seen : MemberView → View
seen v = record { kind = v.kind; docstring = option_copied v.docstring; attributes = option_copied v.attributes; identifier = option_copied v.identifier; const_type = option_copied v.const_type; return_type = option_copied v.return_type; key_type = option_copied v.key_type; type_attributes = option_copied v.type_attributes; type_ = option_copied v.type_; arguments = option_copied v.arguments }

-- a member of a kind that has none of these parts
abbrev pub nothing : MemberKind → View
nothing k = record { kind = k; docstring = None; attributes = None; identifier = None; const_type = None; return_type = None; key_type = None; type_attributes = None; type_ = None; arguments = None }

-- a constant
abbrev pub const_member_view : ConstMember → View
const_member_view v = record (nothing Const) { attributes = v.attributes; identifier = Some v.identifier; const_type = Some v.const_type }

-- a stringifier with no body
abbrev pub stringifier_member_view : StringifierMember → View
stringifier_member_view v = record (nothing Stringifier) { attributes = v.attributes }

-- an iteration
abbrev pub iterable_member_view : IterableInterfaceMember → View
iterable_member_view (IterableSingle v) = record (nothing Iterable) { attributes = v.attributes; type_attributes = v.generics.body.attributes; type_ = Some v.generics.body.type_ }
iterable_member_view (IterableDouble v) = record (nothing Iterable) { attributes = v.attributes; key_type = Some v.generics.body.0; type_attributes = v.generics.body.2.attributes; type_ = Some v.generics.body.2.type_ }

-- an asynchronous iteration
abbrev pub async_iterable_member_view : AsyncIterableInterfaceMember → View
async_iterable_member_view (AsyncSingle v) = record (nothing AsyncIterable) { attributes = v.attributes; type_attributes = v.generics.body.attributes; type_ = Some v.generics.body.type_; arguments = v.args }
async_iterable_member_view (AsyncDouble v) = record (nothing AsyncIterable) { attributes = v.attributes; key_type = Some v.generics.body.0; type_attributes = v.generics.body.2.attributes; type_ = Some v.generics.body.2.type_; arguments = v.args }

-- a member of an interface
abbrev pub interface_member_view : InterfaceMember → View
interface_member_view (InterfaceConst v) = const_member_view v
interface_member_view (InterfaceAttribute v) = record (nothing Attribute) { attributes = v.attributes; identifier = Some v.identifier; type_attributes = v.type_.attributes; type_ = Some v.type_.type_ }
interface_member_view (InterfaceConstructor v) = record (nothing Constructor) { docstring = v.docstring; attributes = v.attributes; arguments = Some v.args }
interface_member_view (InterfaceOperation v) = record (nothing Operation) { docstring = v.docstring; attributes = v.attributes; identifier = v.identifier; return_type = Some v.return_type; arguments = Some v.args }
interface_member_view (InterfaceIterable v) = iterable_member_view v
interface_member_view (InterfaceAsyncIterable v) = async_iterable_member_view v
interface_member_view (InterfaceMaplike v) = record (nothing Maplike) { attributes = v.attributes; key_type = Some v.generics.body.0; type_attributes = v.generics.body.2.attributes; type_ = Some v.generics.body.2.type_ }
interface_member_view (InterfaceSetlike v) = record (nothing Setlike) { attributes = v.attributes; type_attributes = v.generics.body.attributes; type_ = Some v.generics.body.type_ }
interface_member_view (InterfaceStringifier v) = stringifier_member_view v

-- a member of a mixin
abbrev pub mixin_member_view : MixinMember → View
mixin_member_view (MixinConst v) = const_member_view v
mixin_member_view (MixinOperation v) = record (nothing Operation) { attributes = v.attributes; identifier = v.identifier; return_type = Some v.return_type; arguments = Some v.args }
mixin_member_view (MixinAttribute v) = record (nothing Attribute) { attributes = v.attributes; identifier = Some v.identifier; type_attributes = v.type_.attributes; type_ = Some v.type_.type_ }
mixin_member_view (MixinStringifier v) = stringifier_member_view v

-- a member of a namespace
abbrev pub namespace_member_view : NamespaceMember → View
namespace_member_view (NamespaceOperation v) = record (nothing Operation) { docstring = v.docstring; attributes = v.attributes; identifier = v.identifier; return_type = Some v.return_type; arguments = Some v.args }
namespace_member_view (NamespaceAttribute v) = record (nothing Attribute) { docstring = v.docstring; attributes = v.attributes; identifier = Some v.identifier; type_attributes = v.type_.attributes; type_ = Some v.type_.type_ }

-- a member of a dictionary
abbrev pub dictionary_member_view : DictionaryMember → View
dictionary_member_view v = record (nothing Field) { docstring = v.docstring; attributes = v.attributes; identifier = Some v.identifier; type_ = Some v.type_ }

-- the members of a definition in their order; none where its kind has no members
abbrev pub members_of_definition : Definition → List View
members_of_definition (IsCallback v) = []
members_of_definition (IsCallbackInterface v) = map interface_member_view v.members.body.items
members_of_definition (IsInterface v) = map interface_member_view v.members.body.items
members_of_definition (IsInterfaceMixin v) = map mixin_member_view v.members.body.items
members_of_definition (IsNamespace v) = map namespace_member_view v.members.body.items
members_of_definition (IsDictionary v) = map dictionary_member_view v.members.body.items
members_of_definition (IsPartialInterface v) = map interface_member_view v.members.body.items
members_of_definition (IsPartialInterfaceMixin v) = map mixin_member_view v.members.body.items
members_of_definition (IsPartialDictionary v) = map dictionary_member_view v.members.body.items
members_of_definition (IsPartialNamespace v) = map namespace_member_view v.members.body.items
members_of_definition (IsEnum v) = []
members_of_definition (IsTypedef v) = []
members_of_definition (IsIncludesStatement v) = []
members_of_definition (IsImplements v) = []

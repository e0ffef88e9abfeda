-- How the members of interfaces are rendered, interfaces and mixins.
-- Written by tools/spellings.py, and not edited by hand.
use Rattle.std.specs.Global.{Vec}
use Rattle.std.specs.Prelude.{codes}
use Rattle.weedle_interfaces.specs.declared.definition.CallbackInterfaceDefinition.{CallbackInterfaceDefinition}
use Rattle.weedle_interfaces.specs.declared.definition.InterfaceDefinition.{InterfaceDefinition}
use Rattle.weedle_interfaces.specs.declared.definition.PartialInterfaceDefinition.{PartialInterfaceDefinition}
use Rattle.weedle_interfaces.specs.declared.member.InterfaceMember.TheVariants.{Const as InterfaceMember-Const, Attribute as InterfaceMember-Attribute, Constructor as InterfaceMember-Constructor, Operation as InterfaceMember-Operation, Iterable as InterfaceMember-Iterable, AsyncIterable as InterfaceMember-AsyncIterable, Maplike as InterfaceMember-Maplike, Setlike as InterfaceMember-Setlike, Stringifier as InterfaceMember-Stringifier}
use Rattle.weedle_interfaces.specs.declared.member.InterfaceMember.{InterfaceMember}
use Rattle.weedle_mixins.specs.declared.mixin_definition.InterfaceMixinDefinition.{InterfaceMixinDefinition}
use Rattle.weedle_mixins.specs.declared.mixin_definition.PartialInterfaceMixinDefinition.{PartialInterfaceMixinDefinition}
use Rattle.weedle_spell.specs.Forms.{Form, each, optional, ◌then◌}
use Rattle.weedle_spell.specs.GenericParts.{braced_spelling}
use Rattle.weedle_spell.specs.Leaves.{docstring_spelling, identifier_spelling, terminal}
use Rattle.weedle_spell.specs.written.Arguments.{attributes_spelling}
use Rattle.weedle_spell_idl.specs.written.Iterables.{async_iterable_interface_member_spelling, iterable_interface_member_spelling, maplike_interface_member_spelling, setlike_interface_member_spelling}
use Rattle.weedle_spell_idl.specs.written.Members.{attribute_interface_member_spelling, const_member_spelling, constructor_interface_member_spelling, mixin_members_spelling, operation_interface_member_spelling, stringifier_member_spelling}
use Rattle.weedle_spell_idl.specs.written.Modifiers.{inheritance_spelling}

-- a member of an interface
abbrev pub interface_member_spelling : InterfaceMember → Form
interface_member_spelling (InterfaceMember-Const v) = const_member_spelling v
interface_member_spelling (InterfaceMember-Attribute v) = attribute_interface_member_spelling v
interface_member_spelling (InterfaceMember-Constructor v) = constructor_interface_member_spelling v
interface_member_spelling (InterfaceMember-Operation v) = operation_interface_member_spelling v
interface_member_spelling (InterfaceMember-Iterable v) = iterable_interface_member_spelling v
interface_member_spelling (InterfaceMember-AsyncIterable v) = async_iterable_interface_member_spelling v
interface_member_spelling (InterfaceMember-Maplike v) = maplike_interface_member_spelling v
interface_member_spelling (InterfaceMember-Setlike v) = setlike_interface_member_spelling v
interface_member_spelling (InterfaceMember-Stringifier v) = stringifier_member_spelling v

-- the members of an interface, one after another
abbrev pub interface_members_spelling : Vec InterfaceMember → Form
interface_members_spelling v = each interface_member_spelling v.items

-- a callback interface
abbrev pub callback_interface_definition_spelling : CallbackInterfaceDefinition → Form
callback_interface_definition_spelling v =
    optional docstring_spelling v.docstring then attributes_spelling v.attributes
    then terminal (codes "callback") v.callback then terminal (codes "interface") v.interface
    then identifier_spelling v.identifier then optional inheritance_spelling v.inheritance
    then braced_spelling interface_members_spelling v.members then terminal (codes ";") v.semi_colon

-- an interface
abbrev pub interface_definition_spelling : InterfaceDefinition → Form
interface_definition_spelling v =
    optional docstring_spelling v.docstring then attributes_spelling v.attributes
    then terminal (codes "interface") v.interface then identifier_spelling v.identifier
    then optional inheritance_spelling v.inheritance then braced_spelling interface_members_spelling v.members
    then terminal (codes ";") v.semi_colon

-- a part of an interface
abbrev pub partial_interface_definition_spelling : PartialInterfaceDefinition → Form
partial_interface_definition_spelling v =
    attributes_spelling v.attributes then terminal (codes "partial") v.partial
    then terminal (codes "interface") v.interface then identifier_spelling v.identifier
    then braced_spelling interface_members_spelling v.members then terminal (codes ";") v.semi_colon

-- a mixin
abbrev pub interface_mixin_definition_spelling : InterfaceMixinDefinition → Form
interface_mixin_definition_spelling v =
    attributes_spelling v.attributes then terminal (codes "interface") v.interface
    then terminal (codes "mixin") v.mixin then identifier_spelling v.identifier
    then braced_spelling mixin_members_spelling v.members then terminal (codes ";") v.semi_colon

-- a part of a mixin
abbrev pub partial_interface_mixin_definition_spelling : PartialInterfaceMixinDefinition → Form
partial_interface_mixin_definition_spelling v =
    attributes_spelling v.attributes then terminal (codes "partial") v.partial
    then terminal (codes "interface") v.interface then terminal (codes "mixin") v.mixin
    then identifier_spelling v.identifier then braced_spelling mixin_members_spelling v.members
    then terminal (codes ";") v.semi_colon

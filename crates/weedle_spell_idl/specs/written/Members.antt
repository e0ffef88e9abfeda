-- How constants, attributes, operations, constructors and stringifiers of interfaces are rendered,
-- and the members of mixins. Written by tools/spellings.py, and not edited by hand.
use Rattle.std.specs.Global.{Vec}
use Rattle.std.specs.Prelude.{codes}
use Rattle.weedle_members.specs.declared.attribute.AttributeInterfaceMember.{AttributeInterfaceMember}
use Rattle.weedle_members.specs.declared.constant.ConstMember.{ConstMember}
use Rattle.weedle_members.specs.declared.operation.ConstructorInterfaceMember.{ConstructorInterfaceMember}
use Rattle.weedle_members.specs.declared.operation.OperationInterfaceMember.{OperationInterfaceMember}
use Rattle.weedle_members.specs.declared.stringifier.StringifierMember.{StringifierMember}
use Rattle.weedle_mixins.specs.declared.mixin.AttributeMixinMember.{AttributeMixinMember}
use Rattle.weedle_mixins.specs.declared.mixin.MixinMember.TheVariants.{Const as MixinMember-Const, Operation as MixinMember-Operation, Attribute as MixinMember-Attribute, Stringifier as MixinMember-Stringifier}
use Rattle.weedle_mixins.specs.declared.mixin.MixinMember.{MixinMember}
use Rattle.weedle_mixins.specs.declared.mixin.OperationMixinMember.{OperationMixinMember}
use Rattle.weedle_spell.specs.Forms.{Form, each, optional, ◌then◌}
use Rattle.weedle_spell.specs.Leaves.{docstring_spelling, identifier_spelling, terminal}
use Rattle.weedle_spell.specs.Literals.{const_value_spelling}
use Rattle.weedle_spell.specs.SimpleTypes.{const_type_spelling}
use Rattle.weedle_spell.specs.written.Arguments.{arguments_spelling, attributes_spelling}
use Rattle.weedle_spell.specs.written.Types.{attributed_type_spelling, return_type_spelling}
use Rattle.weedle_spell_idl.specs.written.Modifiers.{special_spelling, stringifier_or_inherit_or_static_spelling, stringifier_or_static_spelling}

-- an attribute of an interface
abbrev pub attribute_interface_member_spelling : AttributeInterfaceMember → Form
attribute_interface_member_spelling v =
    attributes_spelling v.attributes then optional stringifier_or_inherit_or_static_spelling v.modifier
    then optional (terminal (codes "readonly")) v.readonly then terminal (codes "attribute") v.attribute
    then attributed_type_spelling v.type_ then identifier_spelling v.identifier
    then terminal (codes ";") v.semi_colon

-- a constant
abbrev pub const_member_spelling : ConstMember → Form
const_member_spelling v =
    attributes_spelling v.attributes then terminal (codes "const") v.const_
    then const_type_spelling v.const_type then identifier_spelling v.identifier
    then terminal (codes "=") v.assign then const_value_spelling v.const_value
    then terminal (codes ";") v.semi_colon

-- a constructor
abbrev pub constructor_interface_member_spelling : ConstructorInterfaceMember → Form
constructor_interface_member_spelling v =
    optional docstring_spelling v.docstring then attributes_spelling v.attributes
    then terminal (codes "constructor") v.constructor then arguments_spelling v.args
    then terminal (codes ";") v.semi_colon

-- an operation of an interface
abbrev pub operation_interface_member_spelling : OperationInterfaceMember → Form
operation_interface_member_spelling v =
    optional docstring_spelling v.docstring then attributes_spelling v.attributes
    then optional stringifier_or_static_spelling v.modifier then optional special_spelling v.special
    then return_type_spelling v.return_type then optional identifier_spelling v.identifier
    then arguments_spelling v.args then terminal (codes ";") v.semi_colon

-- a stringifier with no body
abbrev pub stringifier_member_spelling : StringifierMember → Form
stringifier_member_spelling v =
    attributes_spelling v.attributes then terminal (codes "stringifier") v.stringifier
    then terminal (codes ";") v.semi_colon

-- an operation of a mixin
abbrev pub operation_mixin_member_spelling : OperationMixinMember → Form
operation_mixin_member_spelling v =
    attributes_spelling v.attributes then optional (terminal (codes "stringifier")) v.stringifier
    then return_type_spelling v.return_type then optional identifier_spelling v.identifier
    then arguments_spelling v.args then terminal (codes ";") v.semi_colon

-- an attribute of a mixin
abbrev pub attribute_mixin_member_spelling : AttributeMixinMember → Form
attribute_mixin_member_spelling v =
    attributes_spelling v.attributes then optional (terminal (codes "stringifier")) v.stringifier
    then optional (terminal (codes "readonly")) v.readonly then terminal (codes "attribute") v.attribute
    then attributed_type_spelling v.type_ then identifier_spelling v.identifier
    then terminal (codes ";") v.semi_colon

-- a member of a mixin
abbrev pub mixin_member_spelling : MixinMember → Form
mixin_member_spelling (MixinMember-Const v) = const_member_spelling v
mixin_member_spelling (MixinMember-Operation v) = operation_mixin_member_spelling v
mixin_member_spelling (MixinMember-Attribute v) = attribute_mixin_member_spelling v
mixin_member_spelling (MixinMember-Stringifier v) = stringifier_member_spelling v

-- the members of a mixin, one after another
abbrev pub mixin_members_spelling : Vec MixinMember → Form
mixin_members_spelling v = each mixin_member_spelling v.items

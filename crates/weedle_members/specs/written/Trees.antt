-- The trees of the members that interfaces have.
use Rattle.std.specs.Prelude.{[], ◌∷◌}
use Rattle.weedle_base.specs.Rules.{mark_tree, option_tree}
use Rattle.weedle_grammar.specs.Trees.{Mark, Node, Tree, trees}
use Rattle.weedle_members.specs.declared.attribute.AttributeInterfaceMember.{AttributeInterfaceMember}
use Rattle.weedle_members.specs.declared.constant.ConstMember.{ConstMember}
use Rattle.weedle_members.specs.declared.operation.ConstructorInterfaceMember.{ConstructorInterfaceMember}
use Rattle.weedle_members.specs.declared.operation.OperationInterfaceMember.{OperationInterfaceMember}
use Rattle.weedle_members.specs.declared.stringifier.StringifierMember.{StringifierMember}
use Rattle.weedle_parts.specs.LiteralTrees.{const_value_tree}
use Rattle.weedle_parts.specs.ModifierTrees.{special_tree, stringifier_or_inherit_or_static_tree, stringifier_or_static_tree}
use Rattle.weedle_parts.specs.ValueTrees.{const_type_tree, docstring_tree, identifier_tree}
use Rattle.weedle_types.specs.Trees.{arguments_tree, attributed_type_tree, attributes_tree, return_type_tree}

-- an attribute of an interface: its extended attributes where present, `stringifier`, `inherit` or
-- `static` where one of them is present, `readonly` where present, `attribute`, its type, its name,
-- `;`
abbrev pub attribute_interface_member_tree : AttributeInterfaceMember → Tree
attribute_interface_member_tree v = Node (trees (attributes_tree v.attributes ∷ option_tree stringifier_or_inherit_or_static_tree v.modifier ∷ option_tree mark_tree v.readonly ∷ Mark ∷ attributed_type_tree v.type_ ∷ identifier_tree v.identifier ∷ Mark ∷ []))

-- a constant: its extended attributes where present, `const`, its type, its name, `=`, its value,
-- `;`
abbrev pub const_member_tree : ConstMember → Tree
const_member_tree v = Node (trees (attributes_tree v.attributes ∷ Mark ∷ const_type_tree v.const_type ∷ identifier_tree v.identifier ∷ Mark ∷ const_value_tree v.const_value ∷ Mark ∷ []))

-- a constructor: its docstring where present, its extended attributes where present, `constructor`,
-- its arguments, `;`
abbrev pub constructor_interface_member_tree : ConstructorInterfaceMember → Tree
constructor_interface_member_tree v = Node (trees (option_tree docstring_tree v.docstring ∷ attributes_tree v.attributes ∷ Mark ∷ arguments_tree v.args ∷ Mark ∷ []))

-- an operation of an interface: its docstring where present, its extended attributes where present,
-- `stringifier` or `static` where one of them is present, `getter`, `setter`, `deleter` or
-- `legacycaller` where one of them is present, the type of its result, its name where it has one,
-- its arguments, `;`
abbrev pub operation_interface_member_tree : OperationInterfaceMember → Tree
operation_interface_member_tree v = Node (trees (option_tree docstring_tree v.docstring ∷ attributes_tree v.attributes ∷ option_tree stringifier_or_static_tree v.modifier ∷ option_tree special_tree v.special ∷ return_type_tree v.return_type ∷ option_tree identifier_tree v.identifier ∷ arguments_tree v.args ∷ Mark ∷ []))

-- a stringifier with no body: its extended attributes where present, `stringifier`, `;`
abbrev pub stringifier_member_tree : StringifierMember → Tree
stringifier_member_tree v = Node (trees (attributes_tree v.attributes ∷ Mark ∷ Mark ∷ []))

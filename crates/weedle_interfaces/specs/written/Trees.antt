-- The trees of a member of an interface, of its members, and of interfaces.
use Rattle.std.specs.Prelude.{[], ◌∷◌}
use Rattle.weedle_base.specs.Rules.{option_tree}
use Rattle.weedle_grammar.specs.Trees.{Alt, Mark, Node, Tree, trees}
use Rattle.weedle_interfaces.specs.declared.definition.CallbackInterfaceDefinition.{CallbackInterfaceDefinition}
use Rattle.weedle_interfaces.specs.declared.definition.InterfaceDefinition.{InterfaceDefinition}
use Rattle.weedle_interfaces.specs.declared.definition.PartialInterfaceDefinition.{PartialInterfaceDefinition}
use Rattle.weedle_interfaces.specs.declared.member.InterfaceMember.TheVariants.{Const as InterfaceMember-Const, Attribute as InterfaceMember-Attribute, Constructor as InterfaceMember-Constructor, Operation as InterfaceMember-Operation, Iterable as InterfaceMember-Iterable, AsyncIterable as InterfaceMember-AsyncIterable, Maplike as InterfaceMember-Maplike, Setlike as InterfaceMember-Setlike, Stringifier as InterfaceMember-Stringifier}
use Rattle.weedle_interfaces.specs.declared.member.InterfaceMember.{InterfaceMember}
use Rattle.weedle_iterables.specs.written.Trees.{async_iterable_interface_member_tree, iterable_interface_member_tree, maplike_interface_member_tree, setlike_interface_member_tree}
use Rattle.weedle_members.specs.written.Trees.{attribute_interface_member_tree, const_member_tree, constructor_interface_member_tree, operation_interface_member_tree, stringifier_member_tree}
use Rattle.weedle_parts.specs.ModifierTrees.{inheritance_tree}
use Rattle.weedle_parts.specs.ValueTrees.{braced_tree, docstring_tree, identifier_tree}
use Rattle.weedle_types.specs.PartTrees.{members_tree}
use Rattle.weedle_types.specs.Trees.{attributes_tree}

-- a member of an interface: a constant, an attribute, a constructor, an operation, an iteration over values
-- or pairs, an asynchronous iteration over values or pairs, a map, a set, a stringifier with no body
abbrev pub interface_member_tree : InterfaceMember → Tree
interface_member_tree (InterfaceMember-Const v) = Alt 0 (const_member_tree v)
interface_member_tree (InterfaceMember-Attribute v) = Alt 1 (attribute_interface_member_tree v)
interface_member_tree (InterfaceMember-Constructor v) = Alt 2 (constructor_interface_member_tree v)
interface_member_tree (InterfaceMember-Operation v) = Alt 3 (operation_interface_member_tree v)
interface_member_tree (InterfaceMember-Iterable v) = Alt 4 (iterable_interface_member_tree v)
interface_member_tree (InterfaceMember-AsyncIterable v) = Alt 5 (async_iterable_interface_member_tree v)
interface_member_tree (InterfaceMember-Maplike v) = Alt 6 (maplike_interface_member_tree v)
interface_member_tree (InterfaceMember-Setlike v) = Alt 7 (setlike_interface_member_tree v)
interface_member_tree (InterfaceMember-Stringifier v) = Alt 8 (stringifier_member_tree v)

-- a callback interface: its docstring where present, its extended attributes where present,
-- `callback`, `interface`, its name, the interface that it inherits from where one is named, its
-- members, `;`
abbrev pub callback_interface_definition_tree : CallbackInterfaceDefinition → Tree
callback_interface_definition_tree v = Node (trees (option_tree docstring_tree v.docstring ∷ attributes_tree v.attributes ∷ Mark ∷ Mark ∷ identifier_tree v.identifier ∷ option_tree inheritance_tree v.inheritance ∷ braced_tree (members_tree interface_member_tree) v.members ∷ Mark ∷ []))

-- an interface: its docstring where present, its extended attributes where present, `interface`,
-- its name, the interface that it inherits from where one is named, its members, `;`
abbrev pub interface_definition_tree : InterfaceDefinition → Tree
interface_definition_tree v = Node (trees (option_tree docstring_tree v.docstring ∷ attributes_tree v.attributes ∷ Mark ∷ identifier_tree v.identifier ∷ option_tree inheritance_tree v.inheritance ∷ braced_tree (members_tree interface_member_tree) v.members ∷ Mark ∷ []))

-- a part of an interface: its extended attributes where present, `partial`, `interface`, the name
-- of the interface that it is a part of, its members, `;`
abbrev pub partial_interface_definition_tree : PartialInterfaceDefinition → Tree
partial_interface_definition_tree v = Node (trees (attributes_tree v.attributes ∷ Mark ∷ Mark ∷ identifier_tree v.identifier ∷ braced_tree (members_tree interface_member_tree) v.members ∷ Mark ∷ []))

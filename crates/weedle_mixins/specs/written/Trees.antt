-- The trees of mixins and of their members.
use Rattle.std.specs.Prelude.{[], ◌∷◌}
use Rattle.weedle_base.specs.Rules.{mark_tree, option_tree}
use Rattle.weedle_grammar.specs.Trees.{Alt, Mark, Node, Tree, trees}
use Rattle.weedle_members.specs.written.Trees.{const_member_tree, stringifier_member_tree}
use Rattle.weedle_mixins.specs.declared.mixin.AttributeMixinMember.{AttributeMixinMember}
use Rattle.weedle_mixins.specs.declared.mixin.MixinMember.TheVariants.{Const as MixinMember-Const, Operation as MixinMember-Operation, Attribute as MixinMember-Attribute, Stringifier as MixinMember-Stringifier}
use Rattle.weedle_mixins.specs.declared.mixin.MixinMember.{MixinMember}
use Rattle.weedle_mixins.specs.declared.mixin.OperationMixinMember.{OperationMixinMember}
use Rattle.weedle_mixins.specs.declared.mixin_definition.InterfaceMixinDefinition.{InterfaceMixinDefinition}
use Rattle.weedle_mixins.specs.declared.mixin_definition.PartialInterfaceMixinDefinition.{PartialInterfaceMixinDefinition}
use Rattle.weedle_parts.specs.ValueTrees.{braced_tree, identifier_tree}
use Rattle.weedle_types.specs.PartTrees.{members_tree}
use Rattle.weedle_types.specs.Trees.{arguments_tree, attributed_type_tree, attributes_tree, return_type_tree}

-- an operation of a mixin: its extended attributes where present, `stringifier` where present, the
-- type of its result, its name where it has one, its arguments, `;`
abbrev pub operation_mixin_member_tree : OperationMixinMember → Tree
operation_mixin_member_tree v = Node (trees (attributes_tree v.attributes ∷ option_tree mark_tree v.stringifier ∷ return_type_tree v.return_type ∷ option_tree identifier_tree v.identifier ∷ arguments_tree v.args ∷ Mark ∷ []))

-- an attribute of a mixin: its extended attributes where present, `stringifier` where present,
-- `readonly` where present, `attribute`, its type, its name, `;`
abbrev pub attribute_mixin_member_tree : AttributeMixinMember → Tree
attribute_mixin_member_tree v = Node (trees (attributes_tree v.attributes ∷ option_tree mark_tree v.stringifier ∷ option_tree mark_tree v.readonly ∷ Mark ∷ attributed_type_tree v.type_ ∷ identifier_tree v.identifier ∷ Mark ∷ []))

-- a member of a mixin: a constant, an operation, an attribute, a stringifier with no body
abbrev pub mixin_member_tree : MixinMember → Tree
mixin_member_tree (MixinMember-Const v) = Alt 0 (const_member_tree v)
mixin_member_tree (MixinMember-Operation v) = Alt 1 (operation_mixin_member_tree v)
mixin_member_tree (MixinMember-Attribute v) = Alt 2 (attribute_mixin_member_tree v)
mixin_member_tree (MixinMember-Stringifier v) = Alt 3 (stringifier_member_tree v)

-- a mixin: its extended attributes where present, `interface`, `mixin`, its name, its members, `;`
abbrev pub interface_mixin_definition_tree : InterfaceMixinDefinition → Tree
interface_mixin_definition_tree v = Node (trees (attributes_tree v.attributes ∷ Mark ∷ Mark ∷ identifier_tree v.identifier ∷ braced_tree (members_tree mixin_member_tree) v.members ∷ Mark ∷ []))

-- a part of a mixin: its extended attributes where present, `partial`, `interface`, `mixin`, the
-- name of the mixin that it is a part of, its members, `;`
abbrev pub partial_interface_mixin_definition_tree : PartialInterfaceMixinDefinition → Tree
partial_interface_mixin_definition_tree v = Node (trees (attributes_tree v.attributes ∷ Mark ∷ Mark ∷ Mark ∷ identifier_tree v.identifier ∷ braced_tree (members_tree mixin_member_tree) v.members ∷ Mark ∷ []))

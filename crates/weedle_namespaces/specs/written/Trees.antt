-- The trees of namespaces and dictionaries, and of their members.
use Rattle.std.specs.Prelude.{[], ◌∷◌}
use Rattle.weedle_base.specs.Rules.{mark_tree, option_tree}
use Rattle.weedle_grammar.specs.Trees.{Alt, Mark, Node, Tree, trees}
use Rattle.weedle_namespaces.specs.declared.dictionary.DictionaryMember.{DictionaryMember}
use Rattle.weedle_namespaces.specs.declared.dictionary_definition.DictionaryDefinition.{DictionaryDefinition}
use Rattle.weedle_namespaces.specs.declared.dictionary_definition.PartialDictionaryDefinition.{PartialDictionaryDefinition}
use Rattle.weedle_namespaces.specs.declared.namespace.AttributeNamespaceMember.{AttributeNamespaceMember}
use Rattle.weedle_namespaces.specs.declared.namespace.NamespaceMember.TheVariants.{Operation as NamespaceMember-Operation, Attribute as NamespaceMember-Attribute}
use Rattle.weedle_namespaces.specs.declared.namespace.NamespaceMember.{NamespaceMember}
use Rattle.weedle_namespaces.specs.declared.namespace.OperationNamespaceMember.{OperationNamespaceMember}
use Rattle.weedle_namespaces.specs.declared.namespace_definition.NamespaceDefinition.{NamespaceDefinition}
use Rattle.weedle_namespaces.specs.declared.namespace_definition.PartialNamespaceDefinition.{PartialNamespaceDefinition}
use Rattle.weedle_parts.specs.LiteralTrees.{default_tree}
use Rattle.weedle_parts.specs.ModifierTrees.{inheritance_tree}
use Rattle.weedle_parts.specs.ValueTrees.{braced_tree, docstring_tree, identifier_tree}
use Rattle.weedle_types.specs.PartTrees.{members_tree}
use Rattle.weedle_types.specs.Trees.{arguments_tree, attributed_type_tree, attributes_tree, return_type_tree, type_tree}

-- a member of a dictionary: its docstring where present, its extended attributes where present,
-- `required` where present, its type, its name, its default where present, `;`
abbrev pub dictionary_member_tree : DictionaryMember → Tree
dictionary_member_tree v = Node (trees (option_tree docstring_tree v.docstring ∷ attributes_tree v.attributes ∷ option_tree mark_tree v.required ∷ type_tree v.type_ ∷ identifier_tree v.identifier ∷ option_tree default_tree v.default ∷ Mark ∷ []))

-- a dictionary: its docstring where present, its extended attributes where present, `dictionary`,
-- its name, the dictionary that it inherits from where one is named, its members, `;`
abbrev pub dictionary_definition_tree : DictionaryDefinition → Tree
dictionary_definition_tree v = Node (trees (option_tree docstring_tree v.docstring ∷ attributes_tree v.attributes ∷ Mark ∷ identifier_tree v.identifier ∷ option_tree inheritance_tree v.inheritance ∷ braced_tree (members_tree dictionary_member_tree) v.members ∷ Mark ∷ []))

-- a part of a dictionary: its extended attributes where present, `partial`, `dictionary`, the name
-- of the dictionary that it is a part of, its members, `;`
abbrev pub partial_dictionary_definition_tree : PartialDictionaryDefinition → Tree
partial_dictionary_definition_tree v = Node (trees (attributes_tree v.attributes ∷ Mark ∷ Mark ∷ identifier_tree v.identifier ∷ braced_tree (members_tree dictionary_member_tree) v.members ∷ Mark ∷ []))

-- an operation of a namespace: its docstring where present, its extended attributes where present,
-- the type of its result, its name where it has one, its arguments, `;`
abbrev pub operation_namespace_member_tree : OperationNamespaceMember → Tree
operation_namespace_member_tree v = Node (trees (option_tree docstring_tree v.docstring ∷ attributes_tree v.attributes ∷ return_type_tree v.return_type ∷ option_tree identifier_tree v.identifier ∷ arguments_tree v.args ∷ Mark ∷ []))

-- an attribute of a namespace: its docstring where present, its extended attributes where present,
-- `readonly`, `attribute`, its type, its name, `;`
abbrev pub attribute_namespace_member_tree : AttributeNamespaceMember → Tree
attribute_namespace_member_tree v = Node (trees (option_tree docstring_tree v.docstring ∷ attributes_tree v.attributes ∷ Mark ∷ Mark ∷ attributed_type_tree v.type_ ∷ identifier_tree v.identifier ∷ Mark ∷ []))

-- a member of a namespace: an operation, an attribute
abbrev pub namespace_member_tree : NamespaceMember → Tree
namespace_member_tree (NamespaceMember-Operation v) = Alt 0 (operation_namespace_member_tree v)
namespace_member_tree (NamespaceMember-Attribute v) = Alt 1 (attribute_namespace_member_tree v)

-- a namespace: its docstring where present, its extended attributes where present, `namespace`, its
-- name, its members, `;`
abbrev pub namespace_definition_tree : NamespaceDefinition → Tree
namespace_definition_tree v = Node (trees (option_tree docstring_tree v.docstring ∷ attributes_tree v.attributes ∷ Mark ∷ identifier_tree v.identifier ∷ braced_tree (members_tree namespace_member_tree) v.members ∷ Mark ∷ []))

-- a part of a namespace: its extended attributes where present, `partial`, `namespace`, the name of
-- the namespace that it is a part of, its members, `;`
abbrev pub partial_namespace_definition_tree : PartialNamespaceDefinition → Tree
partial_namespace_definition_tree v = Node (trees (attributes_tree v.attributes ∷ Mark ∷ Mark ∷ identifier_tree v.identifier ∷ braced_tree (members_tree namespace_member_tree) v.members ∷ Mark ∷ []))

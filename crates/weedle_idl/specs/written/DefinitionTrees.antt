-- The tree of any definition, and of a list of them.
use Rattle.std.specs.Prelude.{List}
use Rattle.weedle_base.specs.Rules.{items_tree}
use Rattle.weedle_grammar.specs.Trees.{Alt, Tree}
use Rattle.weedle_idl.specs.declared.definition.Definition.TheVariants.{Callback as Definition-Callback, CallbackInterface as Definition-CallbackInterface, Interface as Definition-Interface, InterfaceMixin as Definition-InterfaceMixin, Namespace as Definition-Namespace, Dictionary as Definition-Dictionary, PartialInterface as Definition-PartialInterface, PartialInterfaceMixin as Definition-PartialInterfaceMixin, PartialDictionary as Definition-PartialDictionary, PartialNamespace as Definition-PartialNamespace, Enum as Definition-Enum, Typedef as Definition-Typedef, IncludesStatement as Definition-IncludesStatement, Implements as Definition-Implements}
use Rattle.weedle_idl.specs.declared.definition.Definition.{Definition}
use Rattle.weedle_interfaces.specs.written.Trees.{callback_interface_definition_tree, interface_definition_tree, partial_interface_definition_tree}
use Rattle.weedle_mixins.specs.written.Trees.{interface_mixin_definition_tree, partial_interface_mixin_definition_tree}
use Rattle.weedle_namespaces.specs.written.Trees.{dictionary_definition_tree, namespace_definition_tree, partial_dictionary_definition_tree, partial_namespace_definition_tree}
use Rattle.weedle_statements.specs.written.Trees.{callback_definition_tree, enum_definition_tree, implements_definition_tree, includes_statement_definition_tree, typedef_definition_tree}

-- a definition: a callback, a callback interface, an interface, a mixin, a namespace, a dictionary, a part of
-- an interface, a part of a mixin, a part of a dictionary, a part of a namespace, an enum, a name for a type,
-- the use of a mixin by an interface, the older form of a mixin's use
abbrev pub definition_tree : Definition → Tree
definition_tree (Definition-Callback v) = Alt 0 (callback_definition_tree v)
definition_tree (Definition-CallbackInterface v) = Alt 1 (callback_interface_definition_tree v)
definition_tree (Definition-Interface v) = Alt 2 (interface_definition_tree v)
definition_tree (Definition-InterfaceMixin v) = Alt 3 (interface_mixin_definition_tree v)
definition_tree (Definition-Namespace v) = Alt 4 (namespace_definition_tree v)
definition_tree (Definition-Dictionary v) = Alt 5 (dictionary_definition_tree v)
definition_tree (Definition-PartialInterface v) = Alt 6 (partial_interface_definition_tree v)
definition_tree (Definition-PartialInterfaceMixin v) = Alt 7 (partial_interface_mixin_definition_tree v)
definition_tree (Definition-PartialDictionary v) = Alt 8 (partial_dictionary_definition_tree v)
definition_tree (Definition-PartialNamespace v) = Alt 9 (partial_namespace_definition_tree v)
definition_tree (Definition-Enum v) = Alt 10 (enum_definition_tree v)
definition_tree (Definition-Typedef v) = Alt 11 (typedef_definition_tree v)
definition_tree (Definition-IncludesStatement v) = Alt 12 (includes_statement_definition_tree v)
definition_tree (Definition-Implements v) = Alt 13 (implements_definition_tree v)

-- definitions one after another
abbrev pub definitions_tree : List Definition → Tree
definitions_tree definitions = items_tree definition_tree definitions

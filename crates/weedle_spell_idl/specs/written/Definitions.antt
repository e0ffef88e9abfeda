-- How definitions are rendered. Written by tools/spellings.py, and not edited by hand.
use Rattle.std.specs.Prelude.{List}
use Rattle.weedle_idl.specs.declared.definition.Definition.TheVariants.{Callback as Definition-Callback, CallbackInterface as Definition-CallbackInterface, Interface as Definition-Interface, InterfaceMixin as Definition-InterfaceMixin, Namespace as Definition-Namespace, Dictionary as Definition-Dictionary, PartialInterface as Definition-PartialInterface, PartialInterfaceMixin as Definition-PartialInterfaceMixin, PartialDictionary as Definition-PartialDictionary, PartialNamespace as Definition-PartialNamespace, Enum as Definition-Enum, Typedef as Definition-Typedef, IncludesStatement as Definition-IncludesStatement, Implements as Definition-Implements}
use Rattle.weedle_idl.specs.declared.definition.Definition.{Definition}
use Rattle.weedle_spell.specs.Forms.{Form, each}
use Rattle.weedle_spell_idl.specs.written.Interfaces.{callback_interface_definition_spelling, interface_definition_spelling, interface_mixin_definition_spelling, partial_interface_definition_spelling, partial_interface_mixin_definition_spelling}
use Rattle.weedle_spell_idl.specs.written.Namespaces.{dictionary_definition_spelling, namespace_definition_spelling, partial_dictionary_definition_spelling, partial_namespace_definition_spelling}
use Rattle.weedle_spell_idl.specs.written.Statements.{callback_definition_spelling, enum_definition_spelling, implements_definition_spelling, includes_statement_definition_spelling, typedef_definition_spelling}

-- a definition
abbrev pub definition_spelling : Definition → Form
definition_spelling (Definition-Callback v) = callback_definition_spelling v
definition_spelling (Definition-CallbackInterface v) = callback_interface_definition_spelling v
definition_spelling (Definition-Interface v) = interface_definition_spelling v
definition_spelling (Definition-InterfaceMixin v) = interface_mixin_definition_spelling v
definition_spelling (Definition-Namespace v) = namespace_definition_spelling v
definition_spelling (Definition-Dictionary v) = dictionary_definition_spelling v
definition_spelling (Definition-PartialInterface v) = partial_interface_definition_spelling v
definition_spelling (Definition-PartialInterfaceMixin v) = partial_interface_mixin_definition_spelling v
definition_spelling (Definition-PartialDictionary v) = partial_dictionary_definition_spelling v
definition_spelling (Definition-PartialNamespace v) = partial_namespace_definition_spelling v
definition_spelling (Definition-Enum v) = enum_definition_spelling v
definition_spelling (Definition-Typedef v) = typedef_definition_spelling v
definition_spelling (Definition-IncludesStatement v) = includes_statement_definition_spelling v
definition_spelling (Definition-Implements v) = implements_definition_spelling v

-- definitions one after another
abbrev pub definitions_spelling : List Definition → Form
definitions_spelling definitions = each definition_spelling definitions

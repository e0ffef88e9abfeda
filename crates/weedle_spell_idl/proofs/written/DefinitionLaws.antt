-- The laws of definitions. Written by tools/spellings.py, and not edited by hand.
use Rattle.std.proofs.Common.{refl}
use Rattle.weedle_grammar.specs.written.Table.Definitions.{DEFINITION, DEFINITIONS}
use Rattle.weedle_idl.specs.declared.definition.Definition.TheVariants.{Callback as Definition-Callback, CallbackInterface as Definition-CallbackInterface, Interface as Definition-Interface, InterfaceMixin as Definition-InterfaceMixin, Namespace as Definition-Namespace, Dictionary as Definition-Dictionary, PartialInterface as Definition-PartialInterface, PartialInterfaceMixin as Definition-PartialInterfaceMixin, PartialDictionary as Definition-PartialDictionary, PartialNamespace as Definition-PartialNamespace, Enum as Definition-Enum, Typedef as Definition-Typedef, IncludesStatement as Definition-IncludesStatement, Implements as Definition-Implements}
use Rattle.weedle_idl.specs.written.DefinitionTrees.{definition_tree, definitions_tree}
use Rattle.weedle_spell.proofs.LawFacts.{loose}
use Rattle.weedle_spell.proofs.Spelt.{IsSpelt, alternative}
use Rattle.weedle_spell.proofs.SpeltLists.{all_spelt, many_spelt}
use Rattle.weedle_spell.specs.Laws.{SpellsValues}
use Rattle.weedle_spell_idl.proofs.written.InterfaceLaws.{callback_interface_definition, interface_definition, interface_mixin_definition, partial_interface_definition, partial_interface_mixin_definition}
use Rattle.weedle_spell_idl.proofs.written.NamespaceLaws.{dictionary_definition, namespace_definition, partial_dictionary_definition, partial_namespace_definition}
use Rattle.weedle_spell_idl.proofs.written.StatementLaws.{callback_definition, enum_definition, implements_definition, includes_statement_definition, typedef_definition}
use Rattle.weedle_spell_idl.specs.written.Definitions.{definition_spelling, definitions_spelling}

pub definition : IsSpelt DEFINITION definition_tree definition_spelling
definition (Definition-Callback v) = alternative 0 refl refl refl (callback_definition v)
definition (Definition-CallbackInterface v) = alternative 1 refl refl refl (callback_interface_definition v)
definition (Definition-Interface v) = alternative 2 refl refl refl (interface_definition v)
definition (Definition-InterfaceMixin v) = alternative 3 refl refl refl (interface_mixin_definition v)
definition (Definition-Namespace v) = alternative 4 refl refl refl (namespace_definition v)
definition (Definition-Dictionary v) = alternative 5 refl refl refl (dictionary_definition v)
definition (Definition-PartialInterface v) = alternative 6 refl refl refl (partial_interface_definition v)
definition (Definition-PartialInterfaceMixin v) =
    alternative 7 refl refl refl (partial_interface_mixin_definition v)
definition (Definition-PartialDictionary v) = alternative 8 refl refl refl (partial_dictionary_definition v)
definition (Definition-PartialNamespace v) = alternative 9 refl refl refl (partial_namespace_definition v)
definition (Definition-Enum v) = alternative 10 refl refl refl (enum_definition v)
definition (Definition-Typedef v) = alternative 11 refl refl refl (typedef_definition v)
definition (Definition-IncludesStatement v) = alternative 12 refl refl refl (includes_statement_definition v)
definition (Definition-Implements v) = alternative 13 refl refl refl (implements_definition v)

pub definitions : IsSpelt DEFINITIONS definitions_tree definitions_spelling
definitions vs = many_spelt refl refl refl vs (all_spelt definition vs)

-- the laws
pub definition_law : SpellsValues DEFINITION definition_tree definition_spelling
definition_law = loose definition

pub definitions_law : SpellsValues DEFINITIONS definitions_tree definitions_spelling
definitions_law = loose definitions

-- The rules of definitions, a few at a time: a function reads so many.
use Rattle.std.specs.Prelude.{List, [], ℕ, ◌∷◌}
use Rattle.weedle_grammar.specs.written.Table.Definitions.{CALLBACK_DEFINITION, CALLBACK_INTERFACE_DEFINITION, DICTIONARY_DEFINITION, ENUM_DEFINITION, IMPLEMENTS_DEFINITION, INCLUDES_STATEMENT_DEFINITION, INTERFACE_DEFINITION, INTERFACE_MIXIN_DEFINITION, NAMESPACE_DEFINITION, PARTIAL_DICTIONARY_DEFINITION, PARTIAL_INTERFACE_DEFINITION, PARTIAL_INTERFACE_MIXIN_DEFINITION, PARTIAL_NAMESPACE_DEFINITION, TYPEDEF_DEFINITION}

-- callbacks and interfaces
abbrev pub callback_or_interface_rules : List ℕ
callback_or_interface_rules = CALLBACK_DEFINITION ∷ CALLBACK_INTERFACE_DEFINITION ∷ INTERFACE_DEFINITION ∷ []

-- mixins, namespaces and dictionaries
abbrev pub main_definition_rules : List ℕ
main_definition_rules = INTERFACE_MIXIN_DEFINITION ∷ NAMESPACE_DEFINITION ∷ DICTIONARY_DEFINITION ∷ []

-- parts of interfaces, mixins, dictionaries and namespaces
abbrev pub partial_definition_rules : List ℕ
partial_definition_rules = PARTIAL_INTERFACE_DEFINITION ∷ PARTIAL_INTERFACE_MIXIN_DEFINITION ∷ PARTIAL_DICTIONARY_DEFINITION ∷ PARTIAL_NAMESPACE_DEFINITION ∷ []

-- enums, names for types, statements
abbrev pub other_definition_rules : List ℕ
other_definition_rules = ENUM_DEFINITION ∷ TYPEDEF_DEFINITION ∷ INCLUDES_STATEMENT_DEFINITION ∷ IMPLEMENTS_DEFINITION ∷ []

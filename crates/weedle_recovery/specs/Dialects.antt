-- How a definition begins by the rules of each dialect.
use Rattle.std.specs.Prelude.{ℕ, List, [], ◌∷◌, ◌++◌}
use Rattle.weedle_grammar.specs.Rows.{Row, Seq}
use Rattle.weedle_grammar.specs.written.Table.{row_of}
use Rattle.weedle_grammar.specs.written.Table.Definitions.{CALLBACK_DEFINITION, CALLBACK_INTERFACE_DEFINITION, INTERFACE_DEFINITION, INTERFACE_MIXIN_DEFINITION, NAMESPACE_DEFINITION, DICTIONARY_DEFINITION, PARTIAL_INTERFACE_DEFINITION, PARTIAL_INTERFACE_MIXIN_DEFINITION, PARTIAL_DICTIONARY_DEFINITION, PARTIAL_NAMESPACE_DEFINITION, ENUM_DEFINITION, TYPEDEF_DEFINITION, INCLUDES_STATEMENT_DEFINITION, IMPLEMENTS_DEFINITION}
use Rattle.weedle_grammar.specs.written.Table.TodayDefinitions.{TODAY_CALLBACK, TODAY_CALLBACK_INTERFACE, TODAY_INTERFACE, TODAY_MIXIN, TODAY_NAMESPACE, TODAY_DICTIONARY, TODAY_PARTIAL_INTERFACE, TODAY_PARTIAL_MIXIN, TODAY_PARTIAL_DICTIONARY, TODAY_PARTIAL_NAMESPACE, TODAY_ENUM, TODAY_TYPEDEF, TODAY_INCLUDES, TODAY_IMPLEMENTS}
use Rattle.weedle_grammar.specs.written.Table.TodayTypes.{TODAY_ATTRIBUTE_LISTS}
use Rattle.weedle_grammar.specs.written.Table.TodayWords.{TODAY_DOCS}
use Rattle.weedle_syntax.specs.declared.dialect.Dialect.{Dialect}
use Rattle.weedle_syntax.specs.declared.dialect.Dialect.TheVariants.{Weedle2, Today}

-- the parts of a sequence
abbrev pub parts_in : Row → List ℕ
parts_in (Seq parts) = parts
parts_in _ = []

-- what today's rules read in front of each kind of definition: docstrings and extended attributes, which weedle2's have in its row
abbrev pub in_front : Dialect → List ℕ
in_front Weedle2 = []
in_front Today = TODAY_DOCS ∷ TODAY_ATTRIBUTE_LISTS ∷ []

-- the parts of a definition of this kind
abbrev pub parts_of : Dialect → ℕ → List ℕ
parts_of dialect definition = in_front dialect ++ parts_in (row_of definition)

-- each kind of definition with how many parts at its front show that it begins: its keywords and, except for a typedef, its name
abbrev pub beginnings : List (ℕ × ℕ)
beginnings =
    (INTERFACE_MIXIN_DEFINITION, 4) ∷ (INTERFACE_DEFINITION, 4) ∷ (DICTIONARY_DEFINITION, 4) ∷ (ENUM_DEFINITION, 4)
    ∷ (PARTIAL_INTERFACE_MIXIN_DEFINITION, 5) ∷ (PARTIAL_INTERFACE_DEFINITION, 4) ∷ (TYPEDEF_DEFINITION, 2)
    ∷ (CALLBACK_INTERFACE_DEFINITION, 5) ∷ (CALLBACK_DEFINITION, 4) ∷ (PARTIAL_DICTIONARY_DEFINITION, 4) ∷ (NAMESPACE_DEFINITION, 4)
    ∷ (PARTIAL_NAMESPACE_DEFINITION, 4) ∷ (INCLUDES_STATEMENT_DEFINITION, 4) ∷ (IMPLEMENTS_DEFINITION, 4) ∷ []

-- the same of today's
abbrev pub today_beginnings : List (ℕ × ℕ)
today_beginnings =
    (TODAY_MIXIN, 5) ∷ (TODAY_INTERFACE, 4) ∷ (TODAY_DICTIONARY, 4) ∷ (TODAY_ENUM, 4)
    ∷ (TODAY_PARTIAL_MIXIN, 6) ∷ (TODAY_PARTIAL_INTERFACE, 5) ∷ (TODAY_TYPEDEF, 3)
    ∷ (TODAY_CALLBACK_INTERFACE, 5) ∷ (TODAY_CALLBACK, 5) ∷ (TODAY_PARTIAL_DICTIONARY, 5) ∷ (TODAY_NAMESPACE, 4)
    ∷ (TODAY_PARTIAL_NAMESPACE, 5) ∷ (TODAY_INCLUDES, 5) ∷ (TODAY_IMPLEMENTS, 5) ∷ []

abbrev pub beginnings_of : Dialect → List (ℕ × ℕ)
beginnings_of Weedle2 = beginnings
beginnings_of Today = today_beginnings

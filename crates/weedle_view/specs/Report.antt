-- What is written of definitions.
use Rattle.std.specs.Prelude.{ℕ, List, [], ◌∷◌, ◌++◌, length, flat_map, decimal, codes}
use Rattle.weedle_idl.specs.declared.definition.Definition.{Definition}
use Rattle.weedle_view.specs.Titles.{kind_text, name_text}

-- a text and a line feed
abbrev pub line : List ℕ → List ℕ
line text = text ++ 10 ∷ []

-- the kind of a definition, a space and its name
abbrev pub definition_line : Definition → List ℕ
definition_line definition = line (kind_text definition ++ 32 ∷ name_text definition)

-- a line for each of a list in order, and then how many they are
abbrev pub list_report : {T : Type 0} → (T → List ℕ) → List T → List ℕ
list_report line_of items = flat_map line_of items ++ line (codes "definitions " ++ decimal (length items))

-- a line for each definition in order, and then how many they are
abbrev pub whole_report : List Definition → List ℕ
whole_report definitions = list_report definition_line definitions

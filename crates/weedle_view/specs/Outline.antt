-- An outline: the kind, the name and the docstring of each definition.
use Rattle.std.specs.List.{slice_split}
use Rattle.std.specs.Option.{option_map}
use Rattle.std.specs.Prelude.{ℕ, List, [], ◌++◌, ◌==◌, flat_map, codes, Option, None, Some, string_bytes}
use Rattle.weedle_view.specs.Report.{line, definition_line, list_report}
use Rattle.weedle_view.specs.Titles.{kind_text, name_text}
use Rattle.weedle_view.specs.declared.entries.Entry.{Entry}
use Rattle.weedle_idl.specs.declared.definition.Definition.{Definition}
use Rattle.weedle_idl.specs.declared.definition.Definition.TheVariants.{Callback as IsCallback, CallbackInterface as IsCallbackInterface, Interface as IsInterface, InterfaceMixin as IsInterfaceMixin, Namespace as IsNamespace, Dictionary as IsDictionary, PartialInterface as IsPartialInterface, PartialInterfaceMixin as IsPartialInterfaceMixin, PartialDictionary as IsPartialDictionary, PartialNamespace as IsPartialNamespace, Enum as IsEnum, Typedef as IsTypedef, IncludesStatement as IsIncludesStatement, Implements as IsImplements}
use Rattle.weedle_parts.specs.declared.common.docstring.Docstring.{Docstring}

-- the text of a docstring where present
abbrev pub given_text : Option Docstring → Option (List ℕ)
given_text docstring = option_map (λ given. string_bytes given.0) docstring

-- the text of a definition's docstring, where it has that field and the docstring is
abbrev pub docstring_text : Definition → Option (List ℕ)
docstring_text (IsCallback v) = None
docstring_text (IsCallbackInterface v) = given_text v.docstring
docstring_text (IsInterface v) = given_text v.docstring
docstring_text (IsInterfaceMixin v) = None
docstring_text (IsNamespace v) = given_text v.docstring
docstring_text (IsDictionary v) = given_text v.docstring
docstring_text (IsPartialInterface v) = None
docstring_text (IsPartialInterfaceMixin v) = None
docstring_text (IsPartialDictionary v) = None
docstring_text (IsPartialNamespace v) = None
docstring_text (IsEnum v) = given_text v.docstring
docstring_text (IsTypedef v) = None
docstring_text (IsIncludesStatement v) = None
docstring_text (IsImplements v) = None

-- what is said of a definition: its kind, its name and its docstring
abbrev pub outlined : Definition → List ℕ × List ℕ × Option (List ℕ)
outlined definition = (kind_text definition, name_text definition, docstring_text definition)

-- what an entry says
abbrev pub said : Entry → List ℕ × List ℕ × Option (List ℕ)
said entry = (entry.kind.now, entry.name.now, option_map (λ text. text.now) entry.docstring)

-- two spaces, a text and a line feed
abbrev pub indented_line : List ℕ → List ℕ
indented_line text = line (codes "  " ++ text)

-- such a line for each part of a text that is cut at each LF
abbrev pub indented : List ℕ → List ℕ
indented text = flat_map indented_line (slice_split (λ byte. byte == 10) text)

-- such a line for each part of a text, where there is one
abbrev pub indented_if_given : Option (List ℕ) → List ℕ
indented_if_given None = []
indented_if_given (Some text) = indented text

-- the lines of a definition's docstring
abbrev pub docstring_lines : Definition → List ℕ
docstring_lines definition = indented_if_given (docstring_text definition)

-- the line of a definition, and behind it the lines of its docstring
abbrev pub outline_lines : Definition → List ℕ
outline_lines definition = definition_line definition ++ docstring_lines definition

-- these lines for each definition in order, and then how many definitions they are
abbrev pub outline_report : List Definition → List ℕ
outline_report definitions = list_report outline_lines definitions

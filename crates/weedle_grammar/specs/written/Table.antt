-- The grammar: the rows and shapes of all rules, section by section. Written by tools/grammar.py, and not edited by hand.
use Rattle.std.specs.Prelude.{ℕ, zero, suc, List, [], ◌∷◌, ◌++◌}
use Rattle.weedle_grammar.specs.Rows.{Row, First}
use Rattle.weedle_grammar.specs.Trees.{Outcome}
use Rattle.weedle_grammar.specs.Meaning.{Shape, Silent, Grammar, ReadsBy}
use Rattle.weedle_grammar.specs.Entry.{Entry, entry_at}
use Rattle.weedle_grammar.specs.written.Table.Trivia.{trivia}
use Rattle.weedle_grammar.specs.written.Table.Symbols.{symbols}
use Rattle.weedle_grammar.specs.written.Table.Keywords.{keywords}
use Rattle.weedle_grammar.specs.written.Table.CapitalizedKeywords.{capitalized_keywords}
use Rattle.weedle_grammar.specs.written.Table.Leaves.{leaves}
use Rattle.weedle_grammar.specs.written.Table.Literals.{literals}
use Rattle.weedle_grammar.specs.written.Table.SimpleTypes.{simple_types}
use Rattle.weedle_grammar.specs.written.Table.Types.{types}
use Rattle.weedle_grammar.specs.written.Table.InterfaceMembers.{interface_members}
use Rattle.weedle_grammar.specs.written.Table.OtherMembers.{other_members}
use Rattle.weedle_grammar.specs.written.Table.Definitions.{definitions}
use Rattle.weedle_grammar.specs.written.Table.TodayWords.{today_words}
use Rattle.weedle_grammar.specs.written.Table.TodayTypes.{today_types}
use Rattle.weedle_grammar.specs.written.Table.TodayMembers.{today_members}
use Rattle.weedle_grammar.specs.written.Table.TodayDefinitions.{today_definitions}
pub mod Trivia
pub mod Symbols
pub mod Keywords
pub mod CapitalizedKeywords
pub mod Leaves
pub mod Literals
pub mod SimpleTypes
pub mod Types
pub mod InterfaceMembers
pub mod OtherMembers
pub mod Definitions
pub mod TodayWords
pub mod TodayTypes
pub mod TodayMembers
pub mod TodayDefinitions

-- all rules, in the order of their numbers
abbrev pub table : List Entry
table = trivia ++ (symbols ++ (keywords ++ (capitalized_keywords ++ (leaves ++ (literals ++ (simple_types ++ (types ++ (interface_members ++ (other_members ++ (definitions ++ (today_words ++ (today_types ++ (today_members ++ today_definitions)))))))))))))

-- the row of a rule
abbrev pub row_of : ℕ → Row
row_of r = (entry_at table r).row

-- its shape
abbrev pub shape_of : ℕ → Shape
shape_of r = (entry_at table r).shape

-- the grammar
abbrev pub webidl : Grammar
webidl = record { row = row_of; shape = shape_of }

-- rule r at place p of the text has the outcome o
abbrev pub Reads : List ℕ → ℕ → ℕ → Outcome → Type 0
Reads text r p o = ReadsBy webidl text r p o

-- Which rules always take a byte. Written by tools/grammar.py, and not edited by hand.
use Rattle.std.proofs.Common.{ℕ, zero, suc, List, [], ◌∷◌, ◌++◌, Bool, false}
use Rattle.weedle_grammar.proofs.Takes.Trivia.{trivia}
use Rattle.weedle_grammar.proofs.Takes.Symbols.{symbols}
use Rattle.weedle_grammar.proofs.Takes.Keywords.{keywords}
use Rattle.weedle_grammar.proofs.Takes.CapitalizedKeywords.{capitalized_keywords}
use Rattle.weedle_grammar.proofs.Takes.Leaves.{leaves}
use Rattle.weedle_grammar.proofs.Takes.Literals.{literals}
use Rattle.weedle_grammar.proofs.Takes.SimpleTypes.{simple_types}
use Rattle.weedle_grammar.proofs.Takes.Types.{types}
use Rattle.weedle_grammar.proofs.Takes.InterfaceMembers.{interface_members}
use Rattle.weedle_grammar.proofs.Takes.OtherMembers.{other_members}
use Rattle.weedle_grammar.proofs.Takes.Definitions.{definitions}
use Rattle.weedle_grammar.proofs.Takes.TodayWords.{today_words}
use Rattle.weedle_grammar.proofs.Takes.TodayTypes.{today_types}
use Rattle.weedle_grammar.proofs.Takes.TodayMembers.{today_members}
use Rattle.weedle_grammar.proofs.Takes.TodayDefinitions.{today_definitions}
pub mod Trivia
pub mod Symbols
pub mod Keywords
pub mod CapitalizedKeywords
pub mod Leaves
pub mod Literals
pub mod SimpleTypes
pub mod Types
pub mod InterfaceMembers
pub mod OtherMembers
pub mod Definitions
pub mod TodayWords
pub mod TodayTypes
pub mod TodayMembers
pub mod TodayDefinitions

-- whether each rule does, in the order of their numbers
abbrev pub flags : List Bool
flags = trivia ++ (symbols ++ (keywords ++ (capitalized_keywords ++ (leaves ++ (literals ++ (simple_types ++ (types ++ (interface_members ++ (other_members ++ (definitions ++ (today_words ++ (today_types ++ (today_members ++ today_definitions)))))))))))))

-- the flag at a place; past the end none is set
abbrev pub flag_at : List Bool → ℕ → Bool
flag_at [] r = false
flag_at (b ∷ bs) zero = b
flag_at (b ∷ bs) (suc r) = flag_at bs r

-- the rule takes a byte wherever it doesn't fail
abbrev pub takes : ℕ → Bool
takes r = flag_at flags r

-- What is known of a text, as contracts see it, and what may be asked of it.
use Rattle.std.specs.Prelude.{◌≡◌, ◌<◌, ℕ, List}
use Rattle.weedle_grammar.specs.written.Bound.{table_count}
use Rattle.weedle_memo.specs.Entries.{Start, start_at}
use Rattle.weedle_memo.specs.Wanted.{WantedFrom}
use Rattle.weedle_syntax.specs.declared.table.Known.{Known}
use Rattle.weedle_syntax.specs.declared.table.Known.TheVariants.{Filled, OnDemand}

-- a table as contracts see it: its text, and the rule that a tree is made of, with its place
pub record TableView : Type 0 where
  pub text : List ℕ
  pub start : Start

abbrev pub table_of : List ℕ → ℕ → ℕ → TableView
table_of text r p = record { text = text; start = start_at r p }

-- what is known is of this text: a packrat table, where the rule is one of its rules, or a memo of this rule at this place
abbrev pub IsKnown : List ℕ → ℕ → ℕ → Known → Type 0
IsKnown text r p (Filled ends) = (ends.now.text ≡ text) × (r < table_count)
IsKnown text r p (OnDemand memo) = (memo.now.text ≡ text) × (memo.now.start ≡ start_at r p)

-- rule x is tried at q by what is read
abbrev pub IsWanted : TableView → ℕ → ℕ → Type 0
IsWanted table x q = WantedFrom table.text table.start.rule table.start.place x q

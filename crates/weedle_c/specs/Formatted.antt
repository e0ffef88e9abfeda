-- What an answer says of a text that is formatted, by its status.
use Rattle.std.specs.Prelude.{◌≡◌, ◌<◌, ◌++◌, ℕ, List, length, drop}
use Rattle.weedle_c.specs.declared.format.WeedleFormatted.{WeedleFormatted}
use Rattle.weedle_formatter.specs.Words.{SaysTheSameIn}
use Rattle.weedle_rules.specs.Outcomes.{EndsAt}
use Rattle.weedle_syntax.specs.Dialects.{start_of, IsWholeIn}
use Rattle.weedle_syntax.specs.declared.dialect.Dialect.{Dialect}
use Rattle.weedle_syntax.specs.declared.dialect.Dialect.TheVariants.{Weedle2}

-- this says the same as the text, and the answer has its length; it is the text itself where the answer says so
pub record IsLaidOutIn (dialect : Dialect) (text : List ℕ) (answer : WeedleFormatted) (formatted : List ℕ) : Type 0 where
  pub same : SaysTheSameIn dialect text formatted
  pub many : answer.length ≡ length formatted
  pub rest : answer.rest ≡ length text
  pub stood : answer.is_laid_out ≡ 0 → formatted ≡ text

-- it is at the front of the room, and behind it is what was there
pub record IsFormattedIn (dialect : Dialect) (text old new : List ℕ) (answer : WeedleFormatted) : Type 0 where
  pub formatted : List ℕ
  pub is : IsLaidOutIn dialect text answer formatted
  pub written : new ≡ formatted ++ drop (length formatted) old

-- it is longer than there is room for
pub record IsLongerIn (dialect : Dialect) (text : List ℕ) (room : ℕ) (answer : WeedleFormatted) : Type 0 where
  pub formatted : List ℕ
  pub is : IsLaidOutIn dialect text answer formatted
  pub more : room < length formatted

-- the dialect's rules don't read the text whole, and the answer says where the remaining input begins
pub record IsUnformattedIn (dialect : Dialect) (text : List ℕ) (answer : WeedleFormatted) : Type 0 where
  pub refused : ¬ IsWholeIn dialect text
  pub left : EndsAt text (start_of dialect) 0 answer.rest
  pub unread : answer.rest < length text

-- these by weedle2's rules
abbrev pub IsFormatted : List ℕ → List ℕ → List ℕ → WeedleFormatted → Type 0
IsFormatted text old new answer = IsFormattedIn Weedle2 text old new answer

abbrev pub IsLonger : List ℕ → ℕ → WeedleFormatted → Type 0
IsLonger text room answer = IsLongerIn Weedle2 text room answer

abbrev pub IsUnformatted : List ℕ → WeedleFormatted → Type 0
IsUnformatted text answer = IsUnformattedIn Weedle2 text answer

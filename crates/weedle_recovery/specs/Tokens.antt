-- Tokens, as unread text is passed over.
use Rattle.std.specs.Prelude.{◌≡◌, ◌+◌, ◌-◌, ◌==◌, ◌&&◌, not, if◌then◌else◌, nat_lt, ℕ, Bool, false, List, drop, length, codes, slice_index, slice_range}
use Rattle.weedle_grammar.specs.Rows.{begins, run_length}
use Rattle.weedle_grammar.specs.declared.class.Class.TheVariants.{Name, NotQuote, NotLineFeed}
use Rattle.weedle_grammar.specs.written.Table.Trivia.{TRIVIA}
use Rattle.weedle_rules.specs.Outcomes.{EndsAt}
use Rattle.weedle_recovery.specs.declared.token.Token.{Token}

-- a line ends between two places
abbrev pub is_line_between : List ℕ → ℕ → ℕ → Bool
is_line_between text p e = nat_lt (run_length NotLineFeed (slice_range text p e)) (e - p)

-- where a string ends whose inside begins at p and ends at this place: behind that, if a quote is
-- there in the same line, and else at p
abbrev pub string_end_at : List ℕ → ℕ → ℕ → ℕ
string_end_at text p quote = if nat_lt quote (length text) && not (is_line_between text p quote) then quote + 1 else p

-- where a string ends that begins at p: behind its second quote, where that is in the same line,
-- and else behind the first
abbrev pub string_end : List ℕ → ℕ → ℕ
string_end text p = string_end_at text (p + 1) (p + 1 + run_length NotQuote (drop (p + 1) text))

-- where a token ends that begins at p: a name or a number, a string, a line of a docstring; a block comment that isn't closed, with the text; else one byte
abbrev pub token_end : List ℕ → ℕ → ℕ
token_end text p =
    if nat_lt 0 (run_length Name (drop p text)) then p + run_length Name (drop p text)
    else if begins (codes "\"") (drop p text) then string_end text p
    else if begins (codes "///") (drop p text) then p + run_length NotLineFeed (drop p text)
    else if begins (codes "/*") (drop p text) then length text
    else p + 1

-- where the whitespace and the comments end at a place
abbrev pub TriviaEnds : List ℕ → ℕ → ℕ → Type 0
TriviaEnds text p e = EndsAt text TRIVIA p e

-- where the first line begins between two places, or the second of them where none does
abbrev pub line_between : List ℕ → ℕ → ℕ → ℕ
line_between text p e = if is_line_between text p e then p + run_length NotLineFeed (slice_range text p e) + 1 else e

-- how many braces are open behind a byte
abbrev pub depth_behind : ℕ → ℕ → ℕ
depth_behind depth b = if b == 123 then depth + 1 else if b == 125 then depth - 1 else depth

-- the first token from p on
pub record IsFirstToken (text : List ℕ) (p : ℕ) (token : Token) : Type 0 where
  pub trivia : TriviaEnds text p token.at
  pub line : token.line ≡ token.at
  pub is_first : token.is_first ≡ false
  pub before : token.before ≡ 0
  pub depth : token.depth ≡ 0

-- the token behind another one, and behind the whitespace and comments between them; it is the first of its line, if a
-- line begins there, and if it isn't a docstring's line behind another one
pub record IsNextToken (text : List ℕ) (old new : Token) : Type 0 where
  pub trivia : TriviaEnds text (token_end text old.at) new.at
  pub line : new.line ≡ line_between text (token_end text old.at) new.at
  pub is_first : new.is_first ≡ (is_line_between text (token_end text old.at) new.at && not (new.before == 47 && begins (codes "/") (drop new.at text)))
  pub before : new.before ≡ slice_index text old.at
  pub depth : new.depth ≡ depth_behind old.depth (slice_index text old.at)

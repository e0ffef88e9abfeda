-- What an answer says of a text that is refused.
use Rattle.std.specs.Prelude.{◌≡◌, ◌⊎◌, ◌≤◌, ◌<◌, ◌+◌, ◌-◌, ◌^◌, ℕ, true, List, [], ◌∷◌, ◌++◌, Option, Some, None, length, take, drop, slice_index}
use Rattle.weedle_c.specs.Parts.{part_of}
use Rattle.weedle_c.specs.declared.part.WeedlePart.{WeedlePart}
use Rattle.weedle_c.specs.declared.told.WeedleRefusal.{WeedleRefusal}
use Rattle.weedle_recovery.specs.Refusals.{IsPartRefusalIn}
use Rattle.weedle_refusal.specs.Excerpt.{message_text}
use Rattle.weedle_refusal.specs.Position.{IsPositionOf, begins_character}
use Rattle.weedle_refusal.specs.Refusal.{IsRefusal, IsRefusalBehindIn}
use Rattle.weedle_refusal.specs.Said.{hint_line}
use Rattle.weedle_refusal.specs.Texts.{refusal_text}
use Rattle.weedle_refusal.specs.declared.hint.Hint.{Hint}
use Rattle.weedle_refusal.specs.declared.hint.Hint.TheVariants as hint
use Rattle.weedle_refusal.specs.declared.position.Position.{Position}
use Rattle.weedle_refusal.specs.declared.refusal.Refusal.{Refusal}
use Rattle.weedle_syntax.specs.declared.dialect.Dialect.{Dialect}
use Rattle.weedle_syntax.specs.declared.dialect.Dialect.TheVariants.{Weedle2}

-- the number of a hint's kind, 0 of none
abbrev pub hint_kind : Option Hint → ℕ
hint_kind None = 0
hint_kind (Some (hint.Keyword at taken keyword)) = 1
hint_kind (Some (hint.Missing at sign)) = 2
hint_kind (Some (hint.Extra at sign)) = 3
hint_kind (Some (hint.WrongSign at found sign)) = 4
hint_kind (Some (hint.WordOrder at taken next next_taken)) = 5
hint_kind (Some (hint.Docstring at taken)) = 6
hint_kind (Some (hint.OpenString at)) = 7
hint_kind (Some (hint.SplitString at)) = 8
hint_kind (Some (hint.ByteOrderMark at)) = 9
hint_kind (Some hint.NoDefinitions) = 10

-- where it is, 0 of none
abbrev pub hint_place : Option Hint → ℕ
hint_place None = 0
hint_place (Some (hint.Keyword at taken keyword)) = at
hint_place (Some (hint.Missing at sign)) = at
hint_place (Some (hint.Extra at sign)) = at
hint_place (Some (hint.WrongSign at found sign)) = at
hint_place (Some (hint.WordOrder at taken next next_taken)) = at
hint_place (Some (hint.Docstring at taken)) = at
hint_place (Some (hint.OpenString at)) = at
hint_place (Some (hint.SplitString at)) = at
hint_place (Some (hint.ByteOrderMark at)) = at
hint_place (Some hint.NoDefinitions) = 0

-- how many bytes are there that it speaks of: a word, a sign, two words with what is between them,
-- the lines of a docstring, a quote, a mark
abbrev pub IsHintLength : Option Hint → ℕ → Type 0
IsHintLength None n = n ≡ 0
IsHintLength (Some (hint.Keyword at taken keyword)) n = n ≡ taken
IsHintLength (Some (hint.Missing at sign)) n = n ≡ 0
IsHintLength (Some (hint.Extra at sign)) n = n ≡ length sign.now
IsHintLength (Some (hint.WrongSign at found sign)) n = n ≡ length found.now
IsHintLength (Some (hint.WordOrder at taken next next_taken)) n = next + next_taken < 2 ^ 64 → n ≡ next + next_taken - at
IsHintLength (Some (hint.Docstring at taken)) n = n ≡ taken
IsHintLength (Some (hint.OpenString at)) n = n ≡ 1
IsHintLength (Some (hint.SplitString at)) n = n ≡ 1
IsHintLength (Some (hint.ByteOrderMark at)) n = n ≡ 3
IsHintLength (Some hint.NoDefinitions) n = n ≡ 0

-- what a message begins with: the place, what would have been read there, and the line of the text with a mark below the place
abbrev pub message_front : List ℕ → Refusal → List ℕ
message_front text refusal = message_text text refusal.place (refusal_text refusal)

-- the line of a hint, where there is one
abbrev pub hint_said : List ℕ → Option Hint → List ℕ
hint_said text None = []
hint_said text (Some hint) = hint_line text hint

-- the whole message, as `weedle_check` prints it behind the name of a file
abbrev pub message_said : List ℕ → Refusal → List ℕ
message_said text refusal = message_front text refusal ++ hint_said text refusal.hint

-- a room has a message up to the end of a character, all of it where it fits, with a zero behind;
-- what was behind that is
pub record IsEnded (said old new : List ℕ) : Type 0 where
  pub end : ℕ
  pub within : end ≤ length said
  pub room : end < length old
  pub written : new ≡ take end said ++ 0 ∷ drop (end + 1) old
  pub whole : length said < length old → end ≡ length said
  pub character : (end ≡ length said) ⊎ (end ≡ 0) ⊎ (begins_character (slice_index said end) ≡ true)

-- the same; where there is no room nothing is written
pub record IsCut (said old new : List ℕ) : Type 0 where
  pub empty : length old ≡ 0 → new ≡ old
  pub ended : 0 < length old → IsEnded said old new

-- the answer has the numbers of a refusal: its places, with line and column, its hint, and how long
-- its message is, which is in the room
pub record IsTold (text : List ℕ) (refusal : Refusal) (old new : List ℕ) (answer : WeedleRefusal) : Type 0 where
  pub start : answer.start ≡ refusal.start
  pub place : answer.place ≡ refusal.place
  pub position : Position
  pub is_position : IsPositionOf text refusal.place position
  pub line : answer.line ≡ position.line
  pub column : answer.column ≡ position.column
  pub kind : answer.hint ≡ hint_kind refusal.hint
  pub at : answer.hint_place ≡ hint_place refusal.hint
  pub bytes : IsHintLength refusal.hint answer.hint_length
  pub all : answer.length ≡ length (message_said text refusal)
  pub offset : answer.hint_offset ≡ length (message_front text refusal)
  pub message : IsCut (message_said text refusal) old new

-- the text isn't read whole, and the answer says where the remaining input begins, the furthest
-- place, and the hint; the room has the message
pub record IsExplained (text old new : List ℕ) (answer : WeedleRefusal) : Type 0 where
  pub refusal : Refusal
  pub is_refusal : IsRefusal text refusal
  pub told : IsTold text refusal old new answer

-- the same of the text from a place on, by the dialect's rules
pub record IsExplainedBehindIn (dialect : Dialect) (text : List ℕ) (start : ℕ) (old new : List ℕ) (answer : WeedleRefusal) : Type 0 where
  pub refusal : Refusal
  pub is_refusal : IsRefusalBehindIn dialect text start refusal
  pub told : IsTold text refusal old new answer

-- the same of an unread part
pub record IsPartExplainedIn (dialect : Dialect) (text : List ℕ) (part : WeedlePart) (old new : List ℕ) (answer : WeedleRefusal) : Type 0 where
  pub refusal : Refusal
  pub is_refusal : IsPartRefusalIn dialect text (part_of part) refusal
  pub told : IsTold text refusal old new answer

-- these by weedle2's rules
abbrev pub IsExplainedBehind : List ℕ → ℕ → List ℕ → List ℕ → WeedleRefusal → Type 0
IsExplainedBehind text start old new answer = IsExplainedBehindIn Weedle2 text start old new answer

abbrev pub IsPartExplained : List ℕ → WeedlePart → List ℕ → List ℕ → WeedleRefusal → Type 0
IsPartExplained text part old new answer = IsPartExplainedIn Weedle2 text part old new answer

-- all numbers of the answer except for its place are 0
pub record IsSilent (answer : WeedleRefusal) : Type 0 where
  pub start : answer.start ≡ 0
  pub line : answer.line ≡ 0
  pub column : answer.column ≡ 0
  pub bytes : answer.length ≡ 0
  pub hint : answer.hint ≡ 0
  pub hint_place : answer.hint_place ≡ 0
  pub hint_length : answer.hint_length ≡ 0
  pub hint_offset : answer.hint_offset ≡ 0

-- What a hint says of a text whose definition at `start` is read up to `place` and no further, by the rules of a dialect.
use Rattle.std.specs.Prelude.{◌≡◌, ◌≤◌, ◌<◌, ◌+◌, ◌-◌, ◌⊎◌, ◌==◌, ◌||◌, ℕ, Bool, true, false, List, [], ◌++◌, ◌∷◌, length, max, take, drop, slice_index, slice_range, codes}
use Rattle.std.specs.List.{list_any}
use Rattle.weedle_refusal.specs.Diagnosis.{IsDiagnosisIn}
use Rattle.weedle_grammar.specs.Rows.{Bytes, is_in, run_length}
use Rattle.weedle_grammar.specs.declared.class.Class.TheVariants.{Letter, Name}
use Rattle.weedle_grammar.specs.written.Bound.{table_count}
use Rattle.weedle_grammar.specs.written.Table.{row_of}
use Rattle.weedle_grammar.specs.written.Table.Trivia.{TRIVIA}
use Rattle.weedle_refusal.specs.Inside.{IsOutside}
use Rattle.weedle_refusal.specs.Near.{DifferByOne}
use Rattle.weedle_refusal.specs.declared.hint.Hint.{Hint}
use Rattle.weedle_refusal.specs.declared.hint.Hint.TheVariants as hint
use Rattle.weedle_rules.specs.Outcomes.{EndsAt}
use Rattle.weedle_syntax.specs.Kinds.{has_letter}
use Rattle.weedle_syntax.specs.declared.dialect.Dialect.{Dialect}
use Rattle.weedle_syntax.specs.declared.dialect.Dialect.TheVariants.{Weedle2}
use Rattle.weedle_syntax.specs.Dialects.{IsWholeIn}

-- these bytes are there
abbrev pub StandAt : List ℕ → List ℕ → ℕ → Type 0
StandAt bytes raw at = take (length bytes) (drop at raw) ≡ bytes

-- whitespace and comments alone
abbrev pub IsTrivia : List ℕ → Type 0
IsTrivia text = EndsAt text TRIVIA 0 (length text)

-- it is the text from `start` up to `end`, with these bytes in place of `taken` bytes from `at` on
pub record IsChanged (raw : List ℕ) (start end at taken : ℕ) (bytes text : List ℕ) : Type 0 where
  pub after : start ≤ at
  pub before : at + taken ≤ end
  pub within : end ≤ length raw
  pub is : text ≡ slice_range raw start at ++ bytes ++ slice_range raw (at + taken) end

-- a definition may begin with the byte: a letter, `_` or `[`
abbrev pub begins_definition : ℕ → Bool
begins_definition byte = is_in Letter byte || byte == 95 || byte == 91

-- nothing is left, or what is there may begin a definition: a letter, `_`, `[` or a docstring
abbrev pub MayBegin : List ℕ → Type 0
MayBegin rest = (length rest ≡ 0) ⊎ ((begins_definition (slice_index rest 0) ≡ true) ⊎ StandAt (codes "///") rest 0)

-- a text may go on so: behind the whitespace and comments at its front it ends, or a definition may
-- begin
pub record Goes (text : List ℕ) : Type 0 where
  pub next : ℕ
  pub trivia : EndsAt text TRIVIA 0 next
  pub begins : MayBegin (drop next text)

-- with this change the definition is read to its end: the text from `start` up to some end, behind
-- the furthest place and what is changed, is then read whole, and behind it the text goes on with
-- no sign that is left over
pub record IsMended (dialect : Dialect) (raw : List ℕ) (start place at taken : ℕ) (bytes : List ℕ) : Type 0 where
  pub end : ℕ
  pub text : List ℕ
  pub past : max place (at + taken) ≤ end
  pub changed : IsChanged raw start end at taken bytes text
  pub whole : IsWholeIn dialect text
  pub goes : Goes (slice_range raw end (length raw))

-- a `;` follows the one place, and the other right behind it
pub record EndsMember (raw : List ℕ) (at end : ℕ) : Type 0 where
  pub after : at < end
  pub ends : StandAt (codes ";") raw (end - 1)

-- the furthest place of the text leaves fewer bytes behind it than so many
pub record LeavesLess (dialect : Dialect) (text : List ℕ) (left : ℕ) : Type 0 where
  pub place : ℕ
  pub rules : List ℕ
  pub diagnosed : IsDiagnosisIn dialect text 0 place rules
  pub less : length text - place < left

-- with this change the definition is read further by more than the member that is changed: beyond a second `;` behind the furthest place and what is changed
pub record ComesBeyond (dialect : Dialect) (raw : List ℕ) (start place at taken : ℕ) (bytes : List ℕ) : Type 0 where
  pub member : ℕ
  pub next : ℕ
  pub end : ℕ
  pub text : List ℕ
  pub ends_member : EndsMember raw (max place (at + taken)) member
  pub ends_next : EndsMember raw member next
  pub changed : IsChanged raw start end at taken bytes text
  pub beyond : LeavesLess dialect text (end - next)

-- the change helps
abbrev pub Helps : Dialect → List ℕ → ℕ → ℕ → ℕ → ℕ → List ℕ → Type 0
Helps dialect raw start place at taken bytes = IsMended dialect raw start place at taken bytes ⊎ ComesBeyond dialect raw start place at taken bytes

-- the bytes of a keyword: some rule of weedle2's reads just them, and a letter is among them
abbrev pub IsKeyword : List ℕ → Type 0
IsKeyword bytes = (rule : ℕ) × (rule < table_count) × (row_of rule ≡ Bytes bytes) × (has_letter bytes ≡ true)

-- a word of so many bytes is there: letters, digits, `_` and `-`, and none of them on either side
pub record IsWordAt (raw : List ℕ) (at taken : ℕ) : Type 0 where
  pub some : 0 < taken
  pub before : (at ≡ 0) ⊎ (is_in Name (slice_index raw (at - 1)) ≡ false)
  pub all : taken ≡ run_length Name (drop at raw)

-- a word is there that differs from a keyword by one letter, or by two exchanged
pub record IsMistyped (raw : List ℕ) (at taken : ℕ) (keyword : List ℕ) : Type 0 where
  pub is_keyword : IsKeyword keyword
  pub word : IsWordAt raw at taken
  pub near : DifferByOne (slice_range raw at (at + taken)) keyword

-- a sign that may be missing or too many
pub data IsSign (bytes : List ℕ) : Type 0 where
  semicolon : bytes ≡ codes ";" → IsSign bytes
  equals : bytes ≡ codes "=" → IsSign bytes
  open_brace : bytes ≡ codes "{" → IsSign bytes
  comma : bytes ≡ codes "," → IsSign bytes
  close_paren : bytes ≡ codes ")" → IsSign bytes
  greater : bytes ≡ codes ">" → IsSign bytes
  close_bracket : bytes ≡ codes "]" → IsSign bytes
  open_paren : bytes ≡ codes "(" → IsSign bytes
  colon : bytes ≡ codes ":" → IsSign bytes
  close_brace : bytes ≡ codes "}" → IsSign bytes
  end_of_definition : bytes ≡ codes "};" → IsSign bytes

-- the one is `;` and the other `,`
pub data ArePair (found sign : List ℕ) : Type 0 where
  comma_for : found ≡ codes ";" → sign ≡ codes "," → ArePair found sign
  semicolon_for : found ≡ codes "," → sign ≡ codes ";" → ArePair found sign

-- two words are there with whitespace and comments alone between them, and the bytes are the same
-- with the words exchanged
pub record AreExchanged (raw : List ℕ) (at taken next next_taken : ℕ) (bytes : List ℕ) : Type 0 where
  pub first : IsWordAt raw at taken
  pub second : IsWordAt raw next next_taken
  pub between : IsTrivia (slice_range raw (at + taken) next)
  pub are : bytes ≡ slice_range raw next (next + next_taken) ++ slice_range raw (at + taken) next ++ slice_range raw at (at + taken)

-- the line of a docstring, up to its LF or to the end of the text
pub record IsDocLine (raw : List ℕ) (at end : ℕ) : Type 0 where
  pub begins : StandAt (codes "///") raw at
  pub line : list_any (λ byte. byte == 10) (slice_range raw at end) ≡ false
  pub ends : (end ≡ length raw) ⊎ (slice_index raw end ≡ 10)

-- another line behind one that ends there, with whitespace and comments alone between them
pub record IsNextDocLine (raw : List ℕ) (end next_end : ℕ) : Type 0 where
  pub next : ℕ
  pub between : IsTrivia (slice_range raw end next)
  pub line : IsDocLine raw next next_end

-- lines of a docstring are there
pub data AreDocLines (raw : List ℕ) (at : ℕ) : ℕ → Type 0 where
  one : {end : ℕ} → IsDocLine raw at end → AreDocLines raw at end
  more : {end next : ℕ} → AreDocLines raw at end → IsNextDocLine raw end next → AreDocLines raw at next

-- a quote is there that opens a string, and no second one behind it; the reading comes to the end
-- of the text
pub record IsOpenString (raw : List ℕ) (start place at : ℕ) : Type 0 where
  pub outside : IsOutside raw start at
  pub opens : StandAt (codes "\"") raw at
  pub alone : list_any (λ byte. byte == 34) (drop (at + 1) raw) ≡ false
  pub all : place ≡ length raw

-- a quote is there that opens a string, and no second one behind it in its line, which ends before
-- the furthest place
pub record IsSplitString (raw : List ℕ) (start place at : ℕ) : Type 0 where
  pub outside : IsOutside raw start at
  pub opens : StandAt (codes "\"") raw at
  pub line_end : ℕ
  pub before : line_end < place
  pub line_ends : slice_index raw line_end ≡ 10
  pub alone : list_any (λ byte. byte == 34) (slice_range raw (at + 1) line_end) ≡ false

-- the three bytes of a byte order mark
abbrev pub byte_order_mark : List ℕ
byte_order_mark = 239 ∷ 187 ∷ 191 ∷ []

-- the hint is right
abbrev pub IsHintIn : Dialect → List ℕ → ℕ → ℕ → Hint → Type 0
IsHintIn dialect raw start place (hint.Keyword at taken keyword) = IsMistyped raw at taken keyword.now × Helps dialect raw start place at taken keyword.now
IsHintIn dialect raw start place (hint.Missing at sign) = IsSign sign.now × Helps dialect raw start place at 0 sign.now
IsHintIn dialect raw start place (hint.Extra at sign) = IsSign sign.now × StandAt sign.now raw at × Helps dialect raw start place at (length sign.now) []
IsHintIn dialect raw start place (hint.WrongSign at found sign) = ArePair found.now sign.now × StandAt found.now raw at × Helps dialect raw start place at (length found.now) sign.now
IsHintIn dialect raw start place (hint.WordOrder at taken next next_taken) = (words : List ℕ) × AreExchanged raw at taken next next_taken words × Helps dialect raw start place at (next + next_taken - at) words
IsHintIn dialect raw start place (hint.Docstring at taken) = AreDocLines raw at (at + taken) × Helps dialect raw start place at taken []
IsHintIn dialect raw start place (hint.OpenString at) = IsOpenString raw start place at
IsHintIn dialect raw start place (hint.SplitString at) = IsSplitString raw start place at
-- the reading comes no further than to the mark
IsHintIn dialect raw start place (hint.ByteOrderMark at) = (at ≡ place) × StandAt byte_order_mark raw at
-- trivia is all of the text
IsHintIn dialect raw start place hint.NoDefinitions = (start ≡ 0) × IsTrivia raw

-- by weedle2's rules
abbrev pub IsHint : List ℕ → ℕ → ℕ → Hint → Type 0
IsHint = IsHintIn Weedle2

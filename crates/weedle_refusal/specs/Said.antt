-- What is printed of a place and of a hint.
use Rattle.std.specs.Prelude.{ℕ, ◌+◌, ◌==◌, List, ◌++◌, take, drop, count_by, codes, decimal}
use Rattle.weedle_refusal.specs.Position.{begins_character, last_line}
use Rattle.weedle_refusal.specs.declared.hint.Hint.{Hint}
use Rattle.weedle_refusal.specs.declared.hint.Hint.TheVariants as hint

-- the line and the column of a place, as `3:14`; a place behind the end of the text has those of its end
abbrev pub place_text : List ℕ → ℕ → List ℕ
place_text text place =
    decimal (1 + count_by (λ byte. byte == 10) (take place text)) ++ (codes ":" ++ decimal (1 + count_by begins_character (last_line (take place text))))

-- where a hint is
abbrev pub hint_place : Hint → ℕ
hint_place (hint.Keyword at taken keyword) = at
hint_place (hint.Missing at sign) = at
hint_place (hint.Extra at sign) = at
hint_place (hint.WrongSign at found sign) = at
hint_place (hint.WordOrder at taken next next_taken) = at
hint_place (hint.Docstring at taken) = at
hint_place (hint.OpenString at) = at
hint_place (hint.SplitString at) = at
hint_place (hint.ByteOrderMark at) = at
hint_place hint.NoDefinitions = 0

-- so many bytes from a place on, or as many as there are
abbrev pub bytes_at : List ℕ → ℕ → ℕ → List ℕ
bytes_at text at taken = take taken (drop at text)

-- two texts in backticks, with this between them, and a question mark
abbrev pub asked : List ℕ → List ℕ → List ℕ → List ℕ
asked one between other = codes "`" ++ (one ++ (between ++ (other ++ codes "`?")))

-- what is said of a hint
abbrev pub hint_text : List ℕ → Hint → List ℕ
hint_text text (hint.Keyword at taken keyword) = asked keyword.now (codes "` in place of `") (bytes_at text at taken)
hint_text text (hint.Missing at sign) = codes "`" ++ (sign.now ++ codes "` missing here?")
hint_text text (hint.Extra at sign) = codes "no `" ++ (sign.now ++ codes "` here")
hint_text text (hint.WrongSign at found sign) = asked sign.now (codes "` in place of `") found.now
hint_text text (hint.WordOrder at taken next next_taken) = asked (bytes_at text next next_taken) (codes "` in front of `") (bytes_at text at taken)
hint_text text (hint.Docstring at taken) = codes "no docstring here"
hint_text text (hint.OpenString at) = codes "the string opens here"
hint_text text (hint.SplitString at) = codes "the string that opens here spans lines"
hint_text text (hint.ByteOrderMark at) = codes "a byte order mark"
hint_text text hint.NoDefinitions = codes "no definitions"

-- the line that is written of a hint
abbrev pub hint_line : List ℕ → Hint → List ℕ
hint_line text hint = place_text text (hint_place hint) ++ (codes ": " ++ (hint_text text hint ++ codes "\n"))

-- A line of a text with a mark below a place of it.
use Rattle.std.specs.Prelude.{ℕ, ◌+◌, ◌-◌, ◌/◌, ◌%◌, ◌^◌, min, Bool, ◌==◌, ◌||◌, ◌&&◌, not, nat_lt, nat_le, if◌then◌else◌, List, [], ◌∷◌, ◌++◌, length, take, drop, take_while, count_by, slice_index, slice_range, codes}
use Rattle.std.specs.Char.{encode_utf8, is_control}
use Rattle.std.specs.Int.{is_in_range}
use Rattle.std.specs.Str.{chars}
use Rattle.weedle_refusal.specs.Position.{begins_character, last_line}
use Rattle.weedle_refusal.specs.Said.{place_text}

-- a character can't be seen, or not for what it is: control characters except for the tab, a
-- no-break space, what has no width, and what turns the direction of a line
abbrev pub is_hidden : ℕ → Bool
is_hidden c =
    if is_control c then not (c == 9)
    else (c == 160 || (is_in_range 8203 8207 c || (is_in_range 8232 8238 c || (is_in_range 8294 8297 c || c == 65279))))

-- one digit of base 16
abbrev pub hex_digit : ℕ → ℕ
hex_digit n = if nat_lt n 10 then 48 + n else 55 + n

-- a character by its number, as `U+00A0`
abbrev pub number_text : ℕ → List ℕ
number_text c = codes "U+" ++ hex_digit (c / 4096 % 16) ∷ hex_digit (c / 256 % 16) ∷ hex_digit (c / 16 % 16) ∷ hex_digit (c % 16) ∷ []

-- what is shown of a character
abbrev pub character_text : ℕ → List ℕ
character_text c = if is_hidden c then number_text c else encode_utf8 c

-- how many characters that has
abbrev pub width : ℕ → ℕ
width c = if is_hidden c then 6 else 1

-- where the character behind one is; places are counted up to 2^64 - 1
abbrev pub next : ℕ → ℕ → ℕ
next at c = min (at + width c) (2 ^ 64 - 1)

-- where the one behind these is
abbrev pub behind : ℕ → List ℕ → ℕ
behind at [] = at
behind at (c ∷ cs) = behind (next at c) cs

-- what is below a character, in front of the mark: a tab stays one
abbrev pub below : ℕ → List ℕ
below c = if is_hidden c then codes "      " else (if c == 9 then codes "\t" else codes " ")

-- where what is shown begins of a line of this width, with the mark behind so much of it
abbrev pub first_shown : ℕ → ℕ → ℕ
first_shown all before = min (before - 50) (all - 100)

-- what is shown of a character at a place of a line, of which a hundred characters are shown from
-- `first` on
abbrev pub shown : ℕ → ℕ → ℕ → List ℕ
shown first at c = if nat_le first at && nat_le (next at c - first) 100 then character_text c else []

-- what is below it in front of the mark
abbrev pub blank : ℕ → ℕ → ℕ → List ℕ
blank first at c = if nat_le first at then below c else []

-- the texts of characters one after another, each by the place where it is; the first is at `at`
abbrev pub along : (ℕ → ℕ → List ℕ) → ℕ → List ℕ → List ℕ
along text at [] = []
along text at (c ∷ cs) = text at c ++ along text (next at c) cs

-- a line of these characters, and below it a mark behind so many of them
abbrev pub marked : List ℕ → ℕ → List ℕ
marked cs column =
    let first = first_shown (behind 0 cs) (behind 0 (take column cs)) in
    along (shown first) 0 cs ++ (codes "\n" ++ (along (blank first) 0 (take column cs) ++ codes "^\n"))

-- the same of a line's bytes
abbrev pub excerpt_text : List ℕ → ℕ → List ℕ
excerpt_text line column = marked (chars line) column

-- where the line of a place begins: behind the last LF before it
abbrev pub line_start : List ℕ → ℕ → ℕ
line_start text place = place - length (last_line (take place text))

-- where it ends: at the first LF from the place on, or with the text
abbrev pub line_end : List ℕ → ℕ → ℕ
line_end text place = place + length (take_while (λ byte. not (byte == 10)) (drop place text))

-- the end, or in front of a CR that an LF ends there
abbrev pub before_return : List ℕ → ℕ → ℕ → ℕ
before_return text start end = if nat_lt end (length text) && (nat_lt start end && slice_index text (end - 1) == 13) then end - 1 else end

-- the line of a text in which a place is, without what ends it
abbrev pub line_at : List ℕ → ℕ → List ℕ
line_at text place = slice_range text (line_start text place) (before_return text (line_start text place) (line_end text place))

-- what is printed of a place of a text: its line and column, what is said of it, the line of the text, and a mark below the place
abbrev pub place_message : List ℕ → ℕ → List ℕ → List ℕ
place_message text place said =
    place_text text place ++ (codes ": " ++ (said ++ (codes "\n" ++ excerpt_text (line_at text place) (count_by begins_character (last_line (take place text))))))

-- a place behind the end of the text is taken as that end
abbrev pub message_text : List ℕ → ℕ → List ℕ → List ℕ
message_text text place said = place_message text (min place (length text)) said

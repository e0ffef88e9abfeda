-- What is printed of words, positions and refusals.
use Rattle.std.specs.Prelude.{ℕ, ◌-◌, if◌then◌else◌, nat_le, List, [], ◌∷◌, ◌++◌, length, map, take, codes, decimal}
use Rattle.weedle_grammar.specs.declared.class.Class.{Class}
use Rattle.weedle_grammar.specs.declared.class.Class.TheVariants as class
use Rattle.weedle_refusal.specs.declared.expected.Expected.{Expected}
use Rattle.weedle_refusal.specs.declared.expected.Expected.TheVariants as word
use Rattle.weedle_refusal.specs.declared.position.Position.{Position}
use Rattle.weedle_refusal.specs.declared.refusal.Refusal.{Refusal}

-- what a byte of a class is called
abbrev pub class_text : Class → List ℕ
class_text class.Blank = codes "a blank"
class_text class.Digit = codes "a digit"
class_text class.OneToNine = codes "a digit from 1 to 9"
class_text class.Octal = codes "an octal digit"
class_text class.Hex = codes "a hex digit"
class_text class.Alnum = codes "a letter or digit"
class_text class.Name = codes "a letter, a digit, `_` or `-`"
class_text class.Slash = codes "`/`"
class_text class.XLetter = codes "`x` or `X`"
class_text class.ELetter = codes "`e` or `E`"
class_text class.Sign = codes "a sign"
class_text class.NotQuote = codes "a character but `\"`"
class_text class.Letter = codes "a letter"
class_text class.NotLineFeed = codes "a character of the line"
class_text class.Any = codes "a character"

-- a word; a text is in backticks
abbrev pub word_text : Expected → List ℕ
word_text word.Type = codes "a type"
word_text word.Value = codes "a value"
word_text word.Name = codes "a name"
word_text (word.Text text) = codes "`" ++ (text.now ++ codes "`")
word_text (word.OneOf class) = class_text class
word_text word.EndOfWord = codes "the end of the word"
word_text word.NoDocstring = codes "no docstring here"
word_text word.EndOfComment = codes "the end of the comment"
word_text word.EndOfLine = codes "the end of the line"
word_text word.EndOfText = codes "the end of the text"

-- the line, a colon and the column
abbrev pub position_text : Position → List ℕ
position_text position = decimal position.line ++ (codes ":" ++ decimal position.column)

-- of texts behind another one: each behind a comma, and the last behind `or`
abbrev pub behind_first : List (List ℕ) → List ℕ
behind_first [] = []
behind_first (text ∷ []) = codes " or " ++ text
behind_first (text ∷ (next ∷ texts)) = codes ", " ++ (text ++ behind_first (next ∷ texts))

-- texts in a row, as `a`, `a or b` and `a, b or c`
abbrev pub in_a_row : List (List ℕ) → List ℕ
in_a_row [] = []
in_a_row (text ∷ texts) = text ++ behind_first texts

-- all texts where they are six at most, and else six and how many more there are
abbrev pub at_most_six : List (List ℕ) → List (List ℕ)
at_most_six texts = if nat_le (length texts) 6 then texts else take 6 texts ++ (decimal (length texts - 6) ++ codes " more") ∷ []

-- what was expected
abbrev pub refusal_text : Refusal → List ℕ
refusal_text refusal = codes "expected " ++ in_a_row (at_most_six (map word_text refusal.expected.items))

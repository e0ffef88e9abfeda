-- Trivia: line comments, whitespace and block comments.
-- The number of each rule, and its row and shape, in the order of the numbers.
-- Written by tools/grammar.py, and not edited by hand.
use Rattle.std.specs.Prelude.{ℕ, List, [], ◌∷◌, codes}
use Rattle.weedle_grammar.specs.declared.class.Class.TheVariants.{Any, Blank, NotLineFeed, Slash}
use Rattle.weedle_grammar.specs.Rows.{Bytes, First, Many, NotNext, OneOf, Past, Run, Seq}
use Rattle.weedle_grammar.specs.Meaning.{Silent}
use Rattle.weedle_grammar.specs.Entry.{Entry, rule}

abbrev pub BYTES_LF : ℕ
BYTES_LF = 0

abbrev pub NOT_NEXT_ANY : ℕ
NOT_NEXT_ANY = 1

abbrev pub LINE_END : ℕ
LINE_END = 2

abbrev pub BYTES_SLASH_SLASH : ℕ
BYTES_SLASH_SLASH = 3

abbrev pub NOT_NEXT_SLASH : ℕ
NOT_NEXT_SLASH = 4

abbrev pub RUN_NOT_LINE_FEED : ℕ
RUN_NOT_LINE_FEED = 5

abbrev pub LINE_COMMENT : ℕ
LINE_COMMENT = 6

abbrev pub ONE_OF_BLANK : ℕ
ONE_OF_BLANK = 7

abbrev pub RUN_BLANK : ℕ
RUN_BLANK = 8

abbrev pub BLANKS : ℕ
BLANKS = 9

abbrev pub BYTES_SLASH_STAR : ℕ
BYTES_SLASH_STAR = 10

abbrev pub PAST_STAR_SLASH : ℕ
PAST_STAR_SLASH = 11

abbrev pub BLOCK_COMMENT : ℕ
BLOCK_COMMENT = 12

abbrev pub PIECE : ℕ
PIECE = 13

abbrev pub TRIVIA : ℕ
TRIVIA = 14

abbrev pub trivia : List Entry
trivia =
    rule BYTES_LF Silent (Bytes (10 ∷ [])) ∷
    rule NOT_NEXT_ANY Silent (NotNext Any) ∷
    rule LINE_END Silent (First (BYTES_LF ∷ NOT_NEXT_ANY ∷ [])) ∷
    rule BYTES_SLASH_SLASH Silent (Bytes (codes "//")) ∷
    rule NOT_NEXT_SLASH Silent (NotNext Slash) ∷
    rule RUN_NOT_LINE_FEED Silent (Run NotLineFeed) ∷
    rule LINE_COMMENT Silent (Seq (BYTES_SLASH_SLASH ∷ NOT_NEXT_SLASH ∷ RUN_NOT_LINE_FEED ∷ LINE_END ∷ [])) ∷
    rule ONE_OF_BLANK Silent (OneOf Blank) ∷
    rule RUN_BLANK Silent (Run Blank) ∷
    rule BLANKS Silent (Seq (ONE_OF_BLANK ∷ RUN_BLANK ∷ [])) ∷
    rule BYTES_SLASH_STAR Silent (Bytes (codes "/*")) ∷
    rule PAST_STAR_SLASH Silent (Past (codes "*/")) ∷
    rule BLOCK_COMMENT Silent (Seq (BYTES_SLASH_STAR ∷ PAST_STAR_SLASH ∷ [])) ∷
    rule PIECE Silent (First (LINE_COMMENT ∷ BLANKS ∷ BLOCK_COMMENT ∷ [])) ∷
    rule TRIVIA Silent (Many PIECE) ∷
    []

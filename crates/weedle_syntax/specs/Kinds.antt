-- What kind of text a rule reads.
use Rattle.std.specs.Prelude.{◌==◌, ◌||◌, ℕ, Bool, List}
use Rattle.std.specs.List.{list_any}
use Rattle.weedle_grammar.specs.declared.class.Class.TheVariants.{Letter}
use Rattle.weedle_grammar.specs.Rows.{Row, Bytes, is_in}
use Rattle.weedle_grammar.specs.written.Table.{row_of}
use Rattle.weedle_grammar.specs.written.Table.Trivia.{LINE_COMMENT, BLANKS, BLOCK_COMMENT}
use Rattle.weedle_grammar.specs.written.Table.Leaves.{IDENTIFIER_TEXT}

-- whitespace
abbrev pub is_blank : ℕ → Bool
is_blank rule = rule == BLANKS

-- a line comment or a block comment
abbrev pub is_comment : ℕ → Bool
is_comment rule = rule == LINE_COMMENT || rule == BLOCK_COMMENT

-- a letter is among the bytes
abbrev pub has_letter : List ℕ → Bool
has_letter bytes = list_any (is_in Letter) bytes

-- of a row: whether it is that of bytes with a letter, as of a keyword's
abbrev pub is_keyword_row : Row → Bool → Bool
is_keyword_row (Bytes bytes) other = has_letter bytes
is_keyword_row _ other = other

-- the letters of a keyword or of a name
abbrev pub is_word : ℕ → Bool
is_word rule = is_keyword_row (row_of rule) (rule == IDENTIFIER_TEXT)

-- Trivia, terminals, names, numbers, strings and docstrings, as texts.
use Rattle.std.specs.Prelude.{◌≢◌, ℕ, List, [], ◌∷◌, codes, if◌then◌else◌, ◌==◌}
use Rattle.weedle_grammar.specs.declared.class.Class.TheVariants.{Blank, Digit, OneToNine, Octal, Hex, Name, XLetter, ELetter, Sign, NotQuote, Letter, NotLineFeed}
use Rattle.weedle_spell.specs.Forms.{Form, Chain, ◌then◌, ◌or◌, exactly, perhaps, that, one, any, some, up_to, each}

-- whitespace, one byte at least
abbrev pub blanks : Form
blanks = some Blank

-- what a line comment holds: no LF, and no `/` at its front
abbrev pub comment_text : Form
comment_text s = any NotLineFeed s × ((t : List ℕ) → s ≢ 47 ∷ t)

-- a line comment: `//`, its text, LF
abbrev pub line_comment : Form
line_comment = exactly (codes "//") then comment_text then exactly (10 ∷ [])

-- a block comment: `/*`, then a text in which `*/` occurs once, at its end
abbrev pub block_comment : Form
block_comment = exactly (codes "/*") then up_to (codes "*/")

-- comments and whitespace, none included
abbrev pub IsTrivia : Form
IsTrivia = Chain (line_comment or blanks or block_comment)

-- a text with trivia around it
abbrev pub around : Form → Form
around A = IsTrivia then A then IsTrivia

-- a symbol or a keyword: its bytes, with trivia around them
abbrev pub word : List ℕ → Form
word bytes = around (exactly bytes)

-- a name: a letter, and any letters, digits, `_` and `-`
abbrev pub name : Form
name = one Letter then any Name

-- a name that is kept, with an underscore before it or none, in trivia
abbrev pub named : List ℕ → Form
named text = IsTrivia then perhaps (exactly (codes "_")) then that text name then IsTrivia

-- a text that is kept, in which no quote is, in quotes and trivia
abbrev pub quoted : List ℕ → Form
quoted text = IsTrivia then exactly (34 ∷ []) then that text (any NotQuote) then exactly (34 ∷ []) then IsTrivia

-- a number that is kept, of this form, in trivia
abbrev pub number : List ℕ → Form → Form
number text A = around (that text A)

-- a minus sign, or none
abbrev pub minus : Form
minus = perhaps (exactly (codes "-"))

-- a decimal number, as `-12`
abbrev pub decimal : Form
decimal = minus then one OneToNine then any Digit

-- a hexadecimal number, as `-0x1F`
abbrev pub hexadecimal : Form
hexadecimal = minus then exactly (codes "0") then one XLetter then some Hex

-- an octal number, as `017`
abbrev pub octal : Form
octal = minus then exactly (codes "0") then any Octal

-- an exponent, as `e+3`
abbrev pub exponent : Form
exponent = one ELetter then perhaps (one Sign) then some Digit

-- digits with a point among them, as `1.` and `.5`
abbrev pub with_point : Form
with_point = (some Digit then exactly (codes ".") then any Digit) or (any Digit then exactly (codes ".") then some Digit)

-- a number with a point or an exponent, as `-1.5e3`
abbrev pub floating : Form
floating = minus then ((with_point then perhaps exponent) or (some Digit then exponent))

-- a line of a docstring: whitespace, `///`, the line, LF
abbrev pub doc_line : List ℕ → Form
doc_line line = any Blank then exactly (codes "///") then that line (any NotLineFeed) then exactly (10 ∷ [])

-- a byte before the first of lines
abbrev pub before_first : ℕ → List (List ℕ) → List (List ℕ)
before_first b [] = (b ∷ []) ∷ []
before_first b (line ∷ lines) = (b ∷ line) ∷ lines

-- a text cut at each LF
abbrev pub cut : List ℕ → List (List ℕ)
cut [] = [] ∷ []
cut (b ∷ s) = if b == 10 then [] ∷ cut s else before_first b (cut s)

-- a docstring: each line of its text
abbrev pub documented : List ℕ → Form
documented text = each doc_line (cut text)

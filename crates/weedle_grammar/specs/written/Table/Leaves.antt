-- Leaves: names, numbers, strings and docstrings.
-- The number of each rule, and its row and shape, in the order of the numbers.
-- Written by tools/grammar.py, and not edited by hand.
use Rattle.std.specs.Prelude.{ℕ, List, [], ◌∷◌, codes}
use Rattle.weedle_grammar.specs.declared.class.Class.TheVariants.{Digit, ELetter, Hex, Letter, Name, NotQuote, Octal, OneToNine, Sign, XLetter}
use Rattle.weedle_grammar.specs.Rows.{Bytes, First, Many, OneOf, Opt, Past, Run, Seq}
use Rattle.weedle_grammar.specs.Meaning.{Joined, Kept, Line, Plain, Silent}
use Rattle.weedle_grammar.specs.Entry.{Entry, rule}
use Rattle.weedle_grammar.specs.written.Table.Trivia.{RUN_BLANK, TRIVIA}
use Rattle.weedle_grammar.specs.written.Table.Symbols.{BYTES_MINUS, BYTES_DOT}

abbrev pub BYTES_UNDERSCORE : ℕ
BYTES_UNDERSCORE = 184

abbrev pub OPT_BYTES_UNDERSCORE : ℕ
OPT_BYTES_UNDERSCORE = 185

abbrev pub ONE_OF_LETTER : ℕ
ONE_OF_LETTER = 186

abbrev pub RUN_NAME : ℕ
RUN_NAME = 187

abbrev pub IDENTIFIER_TEXT : ℕ
IDENTIFIER_TEXT = 188

abbrev pub IDENTIFIER : ℕ
IDENTIFIER = 189

abbrev pub OPT_BYTES_MINUS : ℕ
OPT_BYTES_MINUS = 190

abbrev pub ONE_OF_ONE_TO_NINE : ℕ
ONE_OF_ONE_TO_NINE = 191

abbrev pub RUN_DIGIT : ℕ
RUN_DIGIT = 192

abbrev pub DEC_LIT_TEXT : ℕ
DEC_LIT_TEXT = 193

abbrev pub DEC_LIT : ℕ
DEC_LIT = 194

abbrev pub BYTES_ZERO : ℕ
BYTES_ZERO = 195

abbrev pub ONE_OF_X_LETTER : ℕ
ONE_OF_X_LETTER = 196

abbrev pub ONE_OF_HEX : ℕ
ONE_OF_HEX = 197

abbrev pub RUN_HEX : ℕ
RUN_HEX = 198

abbrev pub HEX_LIT_TEXT : ℕ
HEX_LIT_TEXT = 199

abbrev pub HEX_LIT : ℕ
HEX_LIT = 200

abbrev pub RUN_OCTAL : ℕ
RUN_OCTAL = 201

abbrev pub OCT_LIT_TEXT : ℕ
OCT_LIT_TEXT = 202

abbrev pub OCT_LIT : ℕ
OCT_LIT = 203

abbrev pub ONE_OF_DIGIT : ℕ
ONE_OF_DIGIT = 204

abbrev pub DIGITS : ℕ
DIGITS = 205

abbrev pub ONE_OF_E_LETTER : ℕ
ONE_OF_E_LETTER = 206

abbrev pub ONE_OF_SIGN : ℕ
ONE_OF_SIGN = 207

abbrev pub OPT_ONE_OF_SIGN : ℕ
OPT_ONE_OF_SIGN = 208

abbrev pub EXPONENT : ℕ
EXPONENT = 209

abbrev pub POINT_AFTER_DIGITS : ℕ
POINT_AFTER_DIGITS = 210

abbrev pub POINT_BEFORE_DIGITS : ℕ
POINT_BEFORE_DIGITS = 211

abbrev pub POINT : ℕ
POINT = 212

abbrev pub OPT_EXPONENT : ℕ
OPT_EXPONENT = 213

abbrev pub POINT_FORM : ℕ
POINT_FORM = 214

abbrev pub EXPONENT_FORM : ℕ
EXPONENT_FORM = 215

abbrev pub FLOAT_FORM : ℕ
FLOAT_FORM = 216

abbrev pub FLOAT_VALUE_LIT_TEXT : ℕ
FLOAT_VALUE_LIT_TEXT = 217

abbrev pub FLOAT_VALUE_LIT : ℕ
FLOAT_VALUE_LIT = 218

abbrev pub BYTES_QUOTE : ℕ
BYTES_QUOTE = 219

abbrev pub RUN_NOT_QUOTE : ℕ
RUN_NOT_QUOTE = 220

abbrev pub STRING_LIT : ℕ
STRING_LIT = 221

abbrev pub BYTES_THREE_SLASHES : ℕ
BYTES_THREE_SLASHES = 222

abbrev pub PAST_LF : ℕ
PAST_LF = 223

abbrev pub DOC_LINE : ℕ
DOC_LINE = 224

abbrev pub MANY_DOC_LINE : ℕ
MANY_DOC_LINE = 225

abbrev pub DOCSTRING : ℕ
DOCSTRING = 226

abbrev pub leaves : List Entry
leaves =
    rule BYTES_UNDERSCORE Silent (Bytes (codes "_")) ∷
    rule OPT_BYTES_UNDERSCORE Silent (Opt BYTES_UNDERSCORE) ∷
    rule ONE_OF_LETTER Silent (OneOf Letter) ∷
    rule RUN_NAME Silent (Run Name) ∷
    rule IDENTIFIER_TEXT Silent (Seq (ONE_OF_LETTER ∷ RUN_NAME ∷ [])) ∷
    rule IDENTIFIER (Kept 2) (Seq (TRIVIA ∷ OPT_BYTES_UNDERSCORE ∷ IDENTIFIER_TEXT ∷ TRIVIA ∷ [])) ∷
    rule OPT_BYTES_MINUS Silent (Opt BYTES_MINUS) ∷
    rule ONE_OF_ONE_TO_NINE Silent (OneOf OneToNine) ∷
    rule RUN_DIGIT Silent (Run Digit) ∷
    rule DEC_LIT_TEXT Silent (Seq (OPT_BYTES_MINUS ∷ ONE_OF_ONE_TO_NINE ∷ RUN_DIGIT ∷ [])) ∷
    rule DEC_LIT (Kept 1) (Seq (TRIVIA ∷ DEC_LIT_TEXT ∷ TRIVIA ∷ [])) ∷
    rule BYTES_ZERO Silent (Bytes (codes "0")) ∷
    rule ONE_OF_X_LETTER Silent (OneOf XLetter) ∷
    rule ONE_OF_HEX Silent (OneOf Hex) ∷
    rule RUN_HEX Silent (Run Hex) ∷
    rule HEX_LIT_TEXT Silent (Seq (OPT_BYTES_MINUS ∷ BYTES_ZERO ∷ ONE_OF_X_LETTER ∷ ONE_OF_HEX ∷ RUN_HEX ∷ [])) ∷
    rule HEX_LIT (Kept 1) (Seq (TRIVIA ∷ HEX_LIT_TEXT ∷ TRIVIA ∷ [])) ∷
    rule RUN_OCTAL Silent (Run Octal) ∷
    rule OCT_LIT_TEXT Silent (Seq (OPT_BYTES_MINUS ∷ BYTES_ZERO ∷ RUN_OCTAL ∷ [])) ∷
    rule OCT_LIT (Kept 1) (Seq (TRIVIA ∷ OCT_LIT_TEXT ∷ TRIVIA ∷ [])) ∷
    rule ONE_OF_DIGIT Silent (OneOf Digit) ∷
    rule DIGITS Silent (Seq (ONE_OF_DIGIT ∷ RUN_DIGIT ∷ [])) ∷
    rule ONE_OF_E_LETTER Silent (OneOf ELetter) ∷
    rule ONE_OF_SIGN Silent (OneOf Sign) ∷
    rule OPT_ONE_OF_SIGN Silent (Opt ONE_OF_SIGN) ∷
    rule EXPONENT Silent (Seq (ONE_OF_E_LETTER ∷ OPT_ONE_OF_SIGN ∷ DIGITS ∷ [])) ∷
    rule POINT_AFTER_DIGITS Silent (Seq (DIGITS ∷ BYTES_DOT ∷ RUN_DIGIT ∷ [])) ∷
    rule POINT_BEFORE_DIGITS Silent (Seq (RUN_DIGIT ∷ BYTES_DOT ∷ DIGITS ∷ [])) ∷
    rule POINT Silent (First (POINT_AFTER_DIGITS ∷ POINT_BEFORE_DIGITS ∷ [])) ∷
    rule OPT_EXPONENT Silent (Opt EXPONENT) ∷
    rule POINT_FORM Silent (Seq (POINT ∷ OPT_EXPONENT ∷ [])) ∷
    rule EXPONENT_FORM Silent (Seq (DIGITS ∷ EXPONENT ∷ [])) ∷
    rule FLOAT_FORM Silent (First (POINT_FORM ∷ EXPONENT_FORM ∷ [])) ∷
    rule FLOAT_VALUE_LIT_TEXT Silent (Seq (OPT_BYTES_MINUS ∷ FLOAT_FORM ∷ [])) ∷
    rule FLOAT_VALUE_LIT (Kept 1) (Seq (TRIVIA ∷ FLOAT_VALUE_LIT_TEXT ∷ TRIVIA ∷ [])) ∷
    rule BYTES_QUOTE Silent (Bytes (34 ∷ [])) ∷
    rule RUN_NOT_QUOTE Silent (Run NotQuote) ∷
    rule STRING_LIT (Kept 2) (Seq (TRIVIA ∷ BYTES_QUOTE ∷ RUN_NOT_QUOTE ∷ BYTES_QUOTE ∷ TRIVIA ∷ [])) ∷
    rule BYTES_THREE_SLASHES Silent (Bytes (codes "///")) ∷
    rule PAST_LF Silent (Past (10 ∷ [])) ∷
    rule DOC_LINE Line (Seq (RUN_BLANK ∷ BYTES_THREE_SLASHES ∷ PAST_LF ∷ [])) ∷
    rule MANY_DOC_LINE Plain (Many DOC_LINE) ∷
    rule DOCSTRING Joined (Seq (DOC_LINE ∷ MANY_DOC_LINE ∷ [])) ∷
    []

-- Types that hold no other type, and lists of names.
-- The number of each rule, and its row and shape, in the order of the numbers.
-- Written by tools/grammar.py, and not edited by hand.
use Rattle.std.specs.Prelude.{ℕ, List, [], ◌∷◌}
use Rattle.weedle_grammar.specs.Rows.{First, ListOf, Opt, Seq, Tail}
use Rattle.weedle_grammar.specs.Meaning.{Plain}
use Rattle.weedle_grammar.specs.Entry.{Entry, rule}
use Rattle.weedle_grammar.specs.written.Table.Symbols.{OPEN_PAREN, CLOSE_PAREN, COMMA, Q_MARK}
use Rattle.weedle_grammar.specs.written.Table.Keywords.{UNRESTRICTED, BOOLEAN, BYTE, DOUBLE, FLOAT, LONG, OCTET, SHORT, UNSIGNED}
use Rattle.weedle_grammar.specs.written.Table.Leaves.{IDENTIFIER}

abbrev pub OPT_UNSIGNED : ℕ
OPT_UNSIGNED = 235

abbrev pub LONG_LONG : ℕ
LONG_LONG = 236

abbrev pub LONG_LONG_TYPE : ℕ
LONG_LONG_TYPE = 237

abbrev pub LONG_TYPE : ℕ
LONG_TYPE = 238

abbrev pub SHORT_TYPE : ℕ
SHORT_TYPE = 239

abbrev pub INTEGER_TYPE : ℕ
INTEGER_TYPE = 240

abbrev pub OPT_UNRESTRICTED : ℕ
OPT_UNRESTRICTED = 241

abbrev pub FLOAT_TYPE : ℕ
FLOAT_TYPE = 242

abbrev pub DOUBLE_TYPE : ℕ
DOUBLE_TYPE = 243

abbrev pub FLOATING_POINT_TYPE : ℕ
FLOATING_POINT_TYPE = 244

abbrev pub OPT_Q_MARK : ℕ
OPT_Q_MARK = 245

abbrev pub MAY_BE_NULL_INTEGER_TYPE : ℕ
MAY_BE_NULL_INTEGER_TYPE = 246

abbrev pub MAY_BE_NULL_FLOATING_POINT_TYPE : ℕ
MAY_BE_NULL_FLOATING_POINT_TYPE = 247

abbrev pub MAY_BE_NULL_BOOLEAN : ℕ
MAY_BE_NULL_BOOLEAN = 248

abbrev pub MAY_BE_NULL_BYTE : ℕ
MAY_BE_NULL_BYTE = 249

abbrev pub MAY_BE_NULL_OCTET : ℕ
MAY_BE_NULL_OCTET = 250

abbrev pub MAY_BE_NULL_IDENTIFIER : ℕ
MAY_BE_NULL_IDENTIFIER = 251

abbrev pub CONST_TYPE : ℕ
CONST_TYPE = 252

abbrev pub TAIL_IDENTIFIER_COMMA : ℕ
TAIL_IDENTIFIER_COMMA = 253

abbrev pub IDENTIFIER_LIST : ℕ
IDENTIFIER_LIST = 254

abbrev pub PARENTHESIZED_IDENTIFIER_LIST : ℕ
PARENTHESIZED_IDENTIFIER_LIST = 255

abbrev pub simple_types : List Entry
simple_types =
    rule OPT_UNSIGNED Plain (Opt UNSIGNED) ∷
    rule LONG_LONG Plain (Seq (LONG ∷ LONG ∷ [])) ∷
    rule LONG_LONG_TYPE Plain (Seq (OPT_UNSIGNED ∷ LONG_LONG ∷ [])) ∷
    rule LONG_TYPE Plain (Seq (OPT_UNSIGNED ∷ LONG ∷ [])) ∷
    rule SHORT_TYPE Plain (Seq (OPT_UNSIGNED ∷ SHORT ∷ [])) ∷
    rule INTEGER_TYPE Plain (First (LONG_LONG_TYPE ∷ LONG_TYPE ∷ SHORT_TYPE ∷ [])) ∷
    rule OPT_UNRESTRICTED Plain (Opt UNRESTRICTED) ∷
    rule FLOAT_TYPE Plain (Seq (OPT_UNRESTRICTED ∷ FLOAT ∷ [])) ∷
    rule DOUBLE_TYPE Plain (Seq (OPT_UNRESTRICTED ∷ DOUBLE ∷ [])) ∷
    rule FLOATING_POINT_TYPE Plain (First (FLOAT_TYPE ∷ DOUBLE_TYPE ∷ [])) ∷
    rule OPT_Q_MARK Plain (Opt Q_MARK) ∷
    rule MAY_BE_NULL_INTEGER_TYPE Plain (Seq (INTEGER_TYPE ∷ OPT_Q_MARK ∷ [])) ∷
    rule MAY_BE_NULL_FLOATING_POINT_TYPE Plain (Seq (FLOATING_POINT_TYPE ∷ OPT_Q_MARK ∷ [])) ∷
    rule MAY_BE_NULL_BOOLEAN Plain (Seq (BOOLEAN ∷ OPT_Q_MARK ∷ [])) ∷
    rule MAY_BE_NULL_BYTE Plain (Seq (BYTE ∷ OPT_Q_MARK ∷ [])) ∷
    rule MAY_BE_NULL_OCTET Plain (Seq (OCTET ∷ OPT_Q_MARK ∷ [])) ∷
    rule MAY_BE_NULL_IDENTIFIER Plain (Seq (IDENTIFIER ∷ OPT_Q_MARK ∷ [])) ∷
    rule CONST_TYPE Plain (First (MAY_BE_NULL_INTEGER_TYPE ∷ MAY_BE_NULL_FLOATING_POINT_TYPE ∷ MAY_BE_NULL_BOOLEAN ∷ MAY_BE_NULL_BYTE ∷ MAY_BE_NULL_OCTET ∷ MAY_BE_NULL_IDENTIFIER ∷ [])) ∷
    rule TAIL_IDENTIFIER_COMMA Plain (Tail IDENTIFIER COMMA) ∷
    rule IDENTIFIER_LIST Plain (ListOf IDENTIFIER TAIL_IDENTIFIER_COMMA) ∷
    rule PARENTHESIZED_IDENTIFIER_LIST Plain (Seq (OPEN_PAREN ∷ IDENTIFIER_LIST ∷ CLOSE_PAREN ∷ [])) ∷
    []

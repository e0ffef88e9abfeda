-- Literals and default values.
-- The number of each rule, and its row and shape, in the order of the numbers.
-- Written by tools/grammar.py, and not edited by hand.
use Rattle.std.specs.Prelude.{ℕ, List, [], ◌∷◌}
use Rattle.weedle_grammar.specs.Rows.{First, Seq}
use Rattle.weedle_grammar.specs.Meaning.{Plain}
use Rattle.weedle_grammar.specs.Entry.{Entry, rule}
use Rattle.weedle_grammar.specs.written.Table.Symbols.{OPEN_BRACKET, CLOSE_BRACKET, OPEN_BRACE, CLOSE_BRACE, ASSIGN}
use Rattle.weedle_grammar.specs.written.Table.Keywords.{FALSE, NULL, TRUE}
use Rattle.weedle_grammar.specs.written.Table.CapitalizedKeywords.{INFINITY, NAN, NEG_INFINITY}
use Rattle.weedle_grammar.specs.written.Table.Leaves.{DEC_LIT, HEX_LIT, OCT_LIT, FLOAT_VALUE_LIT, STRING_LIT}

abbrev pub BOOLEAN_LIT : ℕ
BOOLEAN_LIT = 227

abbrev pub INTEGER_LIT : ℕ
INTEGER_LIT = 228

abbrev pub FLOAT_LIT : ℕ
FLOAT_LIT = 229

abbrev pub EMPTY_ARRAY_LIT : ℕ
EMPTY_ARRAY_LIT = 230

abbrev pub EMPTY_DICTIONARY_LIT : ℕ
EMPTY_DICTIONARY_LIT = 231

abbrev pub DEFAULT_VALUE : ℕ
DEFAULT_VALUE = 232

abbrev pub CONST_VALUE : ℕ
CONST_VALUE = 233

abbrev pub DEFAULT : ℕ
DEFAULT = 234

abbrev pub literals : List Entry
literals =
    rule BOOLEAN_LIT Plain (First (TRUE ∷ FALSE ∷ [])) ∷
    rule INTEGER_LIT Plain (First (DEC_LIT ∷ HEX_LIT ∷ OCT_LIT ∷ [])) ∷
    rule FLOAT_LIT Plain (First (FLOAT_VALUE_LIT ∷ NEG_INFINITY ∷ INFINITY ∷ NAN ∷ [])) ∷
    rule EMPTY_ARRAY_LIT Plain (Seq (OPEN_BRACKET ∷ CLOSE_BRACKET ∷ [])) ∷
    rule EMPTY_DICTIONARY_LIT Plain (Seq (OPEN_BRACE ∷ CLOSE_BRACE ∷ [])) ∷
    rule DEFAULT_VALUE Plain (First (BOOLEAN_LIT ∷ EMPTY_ARRAY_LIT ∷ EMPTY_DICTIONARY_LIT ∷ FLOAT_LIT ∷ INTEGER_LIT ∷ NULL ∷ STRING_LIT ∷ [])) ∷
    rule CONST_VALUE Plain (First (BOOLEAN_LIT ∷ FLOAT_LIT ∷ INTEGER_LIT ∷ NULL ∷ [])) ∷
    rule DEFAULT Plain (Seq (ASSIGN ∷ DEFAULT_VALUE ∷ [])) ∷
    []

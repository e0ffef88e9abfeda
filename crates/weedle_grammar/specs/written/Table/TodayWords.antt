-- Words, a symbol, literals and docstrings of today's WebIDL.
-- The number of each rule, and its row and shape, in the order of the numbers.
-- Written by tools/grammar.py, and not edited by hand.
use Rattle.std.specs.Prelude.{ℕ, List, [], ◌∷◌, codes}
use Rattle.weedle_grammar.specs.Rows.{Bytes, First, ListOf, Many, Opt, Seq, Tail}
use Rattle.weedle_grammar.specs.Meaning.{Marked, Plain, Silent}
use Rattle.weedle_grammar.specs.Entry.{Entry, rule}
use Rattle.weedle_grammar.specs.written.Table.Trivia.{RUN_NOT_LINE_FEED, PIECE, TRIVIA}
use Rattle.weedle_grammar.specs.written.Table.Symbols.{OPEN_PAREN, CLOSE_PAREN, COMMA, ASSIGN}
use Rattle.weedle_grammar.specs.written.Table.Keywords.{NOT_NEXT_NAME, NULL, UNDEFINED}
use Rattle.weedle_grammar.specs.written.Table.Leaves.{STRING_LIT, BYTES_THREE_SLASHES, DOCSTRING}
use Rattle.weedle_grammar.specs.written.Table.Literals.{BOOLEAN_LIT, INTEGER_LIT, FLOAT_LIT, EMPTY_ARRAY_LIT, EMPTY_DICTIONARY_LIT}
use Rattle.weedle_grammar.specs.written.Table.SimpleTypes.{OPT_Q_MARK, MAY_BE_NULL_INTEGER_TYPE, MAY_BE_NULL_FLOATING_POINT_TYPE, MAY_BE_NULL_BOOLEAN, MAY_BE_NULL_BYTE, MAY_BE_NULL_OCTET, MAY_BE_NULL_IDENTIFIER}

abbrev pub BYTES_ASTERISK : ℕ
BYTES_ASTERISK = 386

abbrev pub ASTERISK : ℕ
ASTERISK = 387

abbrev pub BYTES_BIG_INT : ℕ
BYTES_BIG_INT = 388

abbrev pub BIG_INT : ℕ
BIG_INT = 389

abbrev pub BYTES_ASYNC_ITERABLE_WORD : ℕ
BYTES_ASYNC_ITERABLE_WORD = 390

abbrev pub ASYNC_ITERABLE_WORD : ℕ
ASYNC_ITERABLE_WORD = 391

abbrev pub BYTES_ASYNC_SEQUENCE : ℕ
BYTES_ASYNC_SEQUENCE = 392

abbrev pub ASYNC_SEQUENCE : ℕ
ASYNC_SEQUENCE = 393

abbrev pub BYTES_OBSERVABLE_ARRAY : ℕ
BYTES_OBSERVABLE_ARRAY = 394

abbrev pub OBSERVABLE_ARRAY : ℕ
OBSERVABLE_ARRAY = 395

abbrev pub BYTES_FLOAT16_ARRAY : ℕ
BYTES_FLOAT16_ARRAY = 396

abbrev pub FLOAT16_ARRAY : ℕ
FLOAT16_ARRAY = 397

abbrev pub BYTES_BIG_INT64_ARRAY : ℕ
BYTES_BIG_INT64_ARRAY = 398

abbrev pub BIG_INT64_ARRAY : ℕ
BIG_INT64_ARRAY = 399

abbrev pub BYTES_BIG_UINT64_ARRAY : ℕ
BYTES_BIG_UINT64_ARRAY = 400

abbrev pub BIG_UINT64_ARRAY : ℕ
BIG_UINT64_ARRAY = 401

abbrev pub BYTES_SHARED_ARRAY_BUFFER : ℕ
BYTES_SHARED_ARRAY_BUFFER = 402

abbrev pub SHARED_ARRAY_BUFFER : ℕ
SHARED_ARRAY_BUFFER = 403

abbrev pub TODAY_DOC : ℕ
TODAY_DOC = 404

abbrev pub TODAY_DOCS : ℕ
TODAY_DOCS = 405

abbrev pub TODAY_LAST_DOC : ℕ
TODAY_LAST_DOC = 406

abbrev pub TODAY_TRIVIA : ℕ
TODAY_TRIVIA = 407

abbrev pub TODAY_DEFAULT_VALUE : ℕ
TODAY_DEFAULT_VALUE = 408

abbrev pub TODAY_DEFAULT : ℕ
TODAY_DEFAULT = 409

abbrev pub OPT_TODAY_DEFAULT : ℕ
OPT_TODAY_DEFAULT = 410

abbrev pub MAY_BE_NULL_BIG_INT : ℕ
MAY_BE_NULL_BIG_INT = 411

abbrev pub TODAY_CONST_TYPE : ℕ
TODAY_CONST_TYPE = 412

abbrev pub TAIL_STRING_LIT_COMMA : ℕ
TAIL_STRING_LIT_COMMA = 413

abbrev pub TODAY_STRING_LIST : ℕ
TODAY_STRING_LIST = 414

abbrev pub PARENTHESIZED_TODAY_STRINGS : ℕ
PARENTHESIZED_TODAY_STRINGS = 415

abbrev pub TODAY_NUMBER : ℕ
TODAY_NUMBER = 416

abbrev pub TAIL_TODAY_NUMBER_COMMA : ℕ
TAIL_TODAY_NUMBER_COMMA = 417

abbrev pub TODAY_NUMBER_LIST : ℕ
TODAY_NUMBER_LIST = 418

abbrev pub PARENTHESIZED_TODAY_NUMBERS : ℕ
PARENTHESIZED_TODAY_NUMBERS = 419

abbrev pub today_words : List Entry
today_words =
    rule BYTES_ASTERISK Silent (Bytes (codes "*")) ∷
    rule ASTERISK Marked (Seq (TRIVIA ∷ BYTES_ASTERISK ∷ TRIVIA ∷ [])) ∷
    rule BYTES_BIG_INT Silent (Bytes (codes "bigint")) ∷
    rule BIG_INT Marked (Seq (TRIVIA ∷ BYTES_BIG_INT ∷ NOT_NEXT_NAME ∷ TRIVIA ∷ [])) ∷
    rule BYTES_ASYNC_ITERABLE_WORD Silent (Bytes (codes "async_iterable")) ∷
    rule ASYNC_ITERABLE_WORD Marked (Seq (TRIVIA ∷ BYTES_ASYNC_ITERABLE_WORD ∷ NOT_NEXT_NAME ∷ TRIVIA ∷ [])) ∷
    rule BYTES_ASYNC_SEQUENCE Silent (Bytes (codes "async_sequence")) ∷
    rule ASYNC_SEQUENCE Marked (Seq (TRIVIA ∷ BYTES_ASYNC_SEQUENCE ∷ NOT_NEXT_NAME ∷ TRIVIA ∷ [])) ∷
    rule BYTES_OBSERVABLE_ARRAY Silent (Bytes (codes "ObservableArray")) ∷
    rule OBSERVABLE_ARRAY Marked (Seq (TRIVIA ∷ BYTES_OBSERVABLE_ARRAY ∷ NOT_NEXT_NAME ∷ TRIVIA ∷ [])) ∷
    rule BYTES_FLOAT16_ARRAY Silent (Bytes (codes "Float16Array")) ∷
    rule FLOAT16_ARRAY Marked (Seq (TRIVIA ∷ BYTES_FLOAT16_ARRAY ∷ NOT_NEXT_NAME ∷ TRIVIA ∷ [])) ∷
    rule BYTES_BIG_INT64_ARRAY Silent (Bytes (codes "BigInt64Array")) ∷
    rule BIG_INT64_ARRAY Marked (Seq (TRIVIA ∷ BYTES_BIG_INT64_ARRAY ∷ NOT_NEXT_NAME ∷ TRIVIA ∷ [])) ∷
    rule BYTES_BIG_UINT64_ARRAY Silent (Bytes (codes "BigUint64Array")) ∷
    rule BIG_UINT64_ARRAY Marked (Seq (TRIVIA ∷ BYTES_BIG_UINT64_ARRAY ∷ NOT_NEXT_NAME ∷ TRIVIA ∷ [])) ∷
    rule BYTES_SHARED_ARRAY_BUFFER Silent (Bytes (codes "SharedArrayBuffer")) ∷
    rule SHARED_ARRAY_BUFFER Marked (Seq (TRIVIA ∷ BYTES_SHARED_ARRAY_BUFFER ∷ NOT_NEXT_NAME ∷ TRIVIA ∷ [])) ∷
    rule TODAY_DOC Plain (Seq (TRIVIA ∷ DOCSTRING ∷ [])) ∷
    rule TODAY_DOCS Plain (Many TODAY_DOC) ∷
    rule TODAY_LAST_DOC Marked (Seq (TRIVIA ∷ BYTES_THREE_SLASHES ∷ RUN_NOT_LINE_FEED ∷ [])) ∷
    rule TODAY_TRIVIA Marked (Seq (PIECE ∷ [])) ∷
    rule TODAY_DEFAULT_VALUE Plain (First (BOOLEAN_LIT ∷ EMPTY_ARRAY_LIT ∷ EMPTY_DICTIONARY_LIT ∷ FLOAT_LIT ∷ INTEGER_LIT ∷ NULL ∷ UNDEFINED ∷ STRING_LIT ∷ [])) ∷
    rule TODAY_DEFAULT Plain (Seq (ASSIGN ∷ TODAY_DEFAULT_VALUE ∷ [])) ∷
    rule OPT_TODAY_DEFAULT Plain (Opt TODAY_DEFAULT) ∷
    rule MAY_BE_NULL_BIG_INT Plain (Seq (BIG_INT ∷ OPT_Q_MARK ∷ [])) ∷
    rule TODAY_CONST_TYPE Plain (First (MAY_BE_NULL_INTEGER_TYPE ∷ MAY_BE_NULL_FLOATING_POINT_TYPE ∷ MAY_BE_NULL_BOOLEAN ∷ MAY_BE_NULL_BYTE ∷ MAY_BE_NULL_OCTET ∷ MAY_BE_NULL_BIG_INT ∷ MAY_BE_NULL_IDENTIFIER ∷ [])) ∷
    rule TAIL_STRING_LIT_COMMA Plain (Tail STRING_LIT COMMA) ∷
    rule TODAY_STRING_LIST Plain (ListOf STRING_LIT TAIL_STRING_LIT_COMMA) ∷
    rule PARENTHESIZED_TODAY_STRINGS Plain (Seq (OPEN_PAREN ∷ TODAY_STRING_LIST ∷ CLOSE_PAREN ∷ [])) ∷
    rule TODAY_NUMBER Plain (First (FLOAT_LIT ∷ INTEGER_LIT ∷ [])) ∷
    rule TAIL_TODAY_NUMBER_COMMA Plain (Tail TODAY_NUMBER COMMA) ∷
    rule TODAY_NUMBER_LIST Plain (ListOf TODAY_NUMBER TAIL_TODAY_NUMBER_COMMA) ∷
    rule PARENTHESIZED_TODAY_NUMBERS Plain (Seq (OPEN_PAREN ∷ TODAY_NUMBER_LIST ∷ CLOSE_PAREN ∷ [])) ∷
    []

-- Symbols: trivia, the symbol's bytes, trivia.
-- The number of each rule, and its row and shape, in the order of the numbers.
-- Written by tools/grammar.py, and not edited by hand.
use Rattle.std.specs.Prelude.{ℕ, List, [], ◌∷◌, codes}
use Rattle.weedle_grammar.specs.Rows.{Bytes, Seq}
use Rattle.weedle_grammar.specs.Meaning.{Marked, Silent}
use Rattle.weedle_grammar.specs.Entry.{Entry, rule}
use Rattle.weedle_grammar.specs.written.Table.Trivia.{TRIVIA}

abbrev pub BYTES_OPEN_PAREN : ℕ
BYTES_OPEN_PAREN = 15

abbrev pub OPEN_PAREN : ℕ
OPEN_PAREN = 16

abbrev pub BYTES_CLOSE_PAREN : ℕ
BYTES_CLOSE_PAREN = 17

abbrev pub CLOSE_PAREN : ℕ
CLOSE_PAREN = 18

abbrev pub BYTES_OPEN_BRACKET : ℕ
BYTES_OPEN_BRACKET = 19

abbrev pub OPEN_BRACKET : ℕ
OPEN_BRACKET = 20

abbrev pub BYTES_CLOSE_BRACKET : ℕ
BYTES_CLOSE_BRACKET = 21

abbrev pub CLOSE_BRACKET : ℕ
CLOSE_BRACKET = 22

abbrev pub BYTES_OPEN_BRACE : ℕ
BYTES_OPEN_BRACE = 23

abbrev pub OPEN_BRACE : ℕ
OPEN_BRACE = 24

abbrev pub BYTES_CLOSE_BRACE : ℕ
BYTES_CLOSE_BRACE = 25

abbrev pub CLOSE_BRACE : ℕ
CLOSE_BRACE = 26

abbrev pub BYTES_COMMA : ℕ
BYTES_COMMA = 27

abbrev pub COMMA : ℕ
COMMA = 28

abbrev pub BYTES_MINUS : ℕ
BYTES_MINUS = 29

abbrev pub MINUS : ℕ
MINUS = 30

abbrev pub BYTES_DOT : ℕ
BYTES_DOT = 31

abbrev pub DOT : ℕ
DOT = 32

abbrev pub BYTES_ELLIPSIS : ℕ
BYTES_ELLIPSIS = 33

abbrev pub ELLIPSIS : ℕ
ELLIPSIS = 34

abbrev pub BYTES_COLON : ℕ
BYTES_COLON = 35

abbrev pub COLON : ℕ
COLON = 36

abbrev pub BYTES_SEMI_COLON : ℕ
BYTES_SEMI_COLON = 37

abbrev pub SEMI_COLON : ℕ
SEMI_COLON = 38

abbrev pub BYTES_LESS_THAN : ℕ
BYTES_LESS_THAN = 39

abbrev pub LESS_THAN : ℕ
LESS_THAN = 40

abbrev pub BYTES_ASSIGN : ℕ
BYTES_ASSIGN = 41

abbrev pub ASSIGN : ℕ
ASSIGN = 42

abbrev pub BYTES_GREATER_THAN : ℕ
BYTES_GREATER_THAN = 43

abbrev pub GREATER_THAN : ℕ
GREATER_THAN = 44

abbrev pub BYTES_Q_MARK : ℕ
BYTES_Q_MARK = 45

abbrev pub Q_MARK : ℕ
Q_MARK = 46

abbrev pub symbols : List Entry
symbols =
    rule BYTES_OPEN_PAREN Silent (Bytes (codes "(")) ∷
    rule OPEN_PAREN Marked (Seq (TRIVIA ∷ BYTES_OPEN_PAREN ∷ TRIVIA ∷ [])) ∷
    rule BYTES_CLOSE_PAREN Silent (Bytes (codes ")")) ∷
    rule CLOSE_PAREN Marked (Seq (TRIVIA ∷ BYTES_CLOSE_PAREN ∷ TRIVIA ∷ [])) ∷
    rule BYTES_OPEN_BRACKET Silent (Bytes (codes "[")) ∷
    rule OPEN_BRACKET Marked (Seq (TRIVIA ∷ BYTES_OPEN_BRACKET ∷ TRIVIA ∷ [])) ∷
    rule BYTES_CLOSE_BRACKET Silent (Bytes (codes "]")) ∷
    rule CLOSE_BRACKET Marked (Seq (TRIVIA ∷ BYTES_CLOSE_BRACKET ∷ TRIVIA ∷ [])) ∷
    rule BYTES_OPEN_BRACE Silent (Bytes (codes "{")) ∷
    rule OPEN_BRACE Marked (Seq (TRIVIA ∷ BYTES_OPEN_BRACE ∷ TRIVIA ∷ [])) ∷
    rule BYTES_CLOSE_BRACE Silent (Bytes (codes "}")) ∷
    rule CLOSE_BRACE Marked (Seq (TRIVIA ∷ BYTES_CLOSE_BRACE ∷ TRIVIA ∷ [])) ∷
    rule BYTES_COMMA Silent (Bytes (codes ",")) ∷
    rule COMMA Marked (Seq (TRIVIA ∷ BYTES_COMMA ∷ TRIVIA ∷ [])) ∷
    rule BYTES_MINUS Silent (Bytes (codes "-")) ∷
    rule MINUS Marked (Seq (TRIVIA ∷ BYTES_MINUS ∷ TRIVIA ∷ [])) ∷
    rule BYTES_DOT Silent (Bytes (codes ".")) ∷
    rule DOT Marked (Seq (TRIVIA ∷ BYTES_DOT ∷ TRIVIA ∷ [])) ∷
    rule BYTES_ELLIPSIS Silent (Bytes (codes "...")) ∷
    rule ELLIPSIS Marked (Seq (TRIVIA ∷ BYTES_ELLIPSIS ∷ TRIVIA ∷ [])) ∷
    rule BYTES_COLON Silent (Bytes (codes ":")) ∷
    rule COLON Marked (Seq (TRIVIA ∷ BYTES_COLON ∷ TRIVIA ∷ [])) ∷
    rule BYTES_SEMI_COLON Silent (Bytes (codes ";")) ∷
    rule SEMI_COLON Marked (Seq (TRIVIA ∷ BYTES_SEMI_COLON ∷ TRIVIA ∷ [])) ∷
    rule BYTES_LESS_THAN Silent (Bytes (codes "<")) ∷
    rule LESS_THAN Marked (Seq (TRIVIA ∷ BYTES_LESS_THAN ∷ TRIVIA ∷ [])) ∷
    rule BYTES_ASSIGN Silent (Bytes (codes "=")) ∷
    rule ASSIGN Marked (Seq (TRIVIA ∷ BYTES_ASSIGN ∷ TRIVIA ∷ [])) ∷
    rule BYTES_GREATER_THAN Silent (Bytes (codes ">")) ∷
    rule GREATER_THAN Marked (Seq (TRIVIA ∷ BYTES_GREATER_THAN ∷ TRIVIA ∷ [])) ∷
    rule BYTES_Q_MARK Silent (Bytes (codes "?")) ∷
    rule Q_MARK Marked (Seq (TRIVIA ∷ BYTES_Q_MARK ∷ TRIVIA ∷ [])) ∷
    []

-- Rules of symbols and of keywords.
use Rattle.std.specs.Prelude.{◌≡◌, ℕ, List, [], ◌∷◌}
use Rattle.weedle_grammar.specs.Meaning.{Silent, Marked}
use Rattle.weedle_grammar.specs.Rows.{Row, Bytes, Seq}
use Rattle.weedle_grammar.specs.written.Table.{row_of, shape_of}
use Rattle.weedle_grammar.specs.written.Table.Keywords.{NOT_NEXT_NAME}
use Rattle.weedle_grammar.specs.written.Table.Trivia.{TRIVIA}

-- the second part of a sequence
abbrev pub second_of : Row → ℕ
second_of (Seq (first ∷ second ∷ rest)) = second
second_of _ = 0

-- the part of a symbol's or keyword's rule that takes its bytes
abbrev pub core : ℕ → ℕ
core r = second_of (row_of r)

-- the rule is a symbol's: trivia, these bytes, and trivia
abbrev pub IsSymbol : ℕ → List ℕ → Type 0
IsSymbol r b =
    (row_of r ≡ Seq (TRIVIA ∷ core r ∷ TRIVIA ∷ [])) × (shape_of r ≡ Marked) × (row_of (core r) ≡ Bytes b) × (shape_of (core r) ≡ Silent)

-- the rule is a keyword's: trivia, these bytes with no name character next, and trivia
abbrev pub IsKeyword : ℕ → List ℕ → Type 0
IsKeyword r b =
    (row_of r ≡ Seq (TRIVIA ∷ core r ∷ NOT_NEXT_NAME ∷ TRIVIA ∷ [])) × (shape_of r ≡ Marked) × (row_of (core r) ≡ Bytes b) × (shape_of (core r) ≡ Silent)

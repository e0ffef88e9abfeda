-- The marks of a text: brackets, what begins a string or a comment, and a semicolon.
use Rattle.std.specs.Prelude.{ℕ, List, [], ◌∷◌, Bool, ◌==◌, ◌||◌, drop, Option, Some, None, if◌then◌else◌}
use Rattle.weedle_grammar.specs.Rows.{take_past}

-- `[`, `]`, `(`, `)`, `<` or `>`
abbrev pub is_bracket : ℕ → Bool
is_bracket b = b == 91 || b == 93 || b == 40 || b == 41 || b == 60 || b == 62

-- a quote, a slash, a bracket or a semicolon
abbrev pub is_mark : ℕ → Bool
is_mark b = b == 34 || b == 47 || is_bracket b || b == 59

-- the first mark of a text, and what follows it
abbrev pub first_mark : List ℕ → Option (ℕ × List ℕ)
first_mark [] = None
first_mark (b ∷ text) = if is_mark b then Some (b, text) else first_mark text

-- what is left of a text behind so many bytes
abbrev pub rest_behind : List ℕ → Option ℕ → List ℕ
rest_behind text None = []
rest_behind text (Some end) = drop end text

-- what follows the first place of these bytes, or nothing
abbrev pub past : List ℕ → List ℕ → List ℕ
past bytes text = rest_behind text (take_past bytes text)

-- How many brackets are open at once.
use Rattle.std.specs.Prelude.{ℕ, ◌+◌, ◌-◌, max, List, [], ◌∷◌, Bool, ◌==◌, ◌||◌, if◌then◌else◌}

-- how many are open behind a byte, where so many are before it
abbrev pub open_behind : (ℕ → Bool) → (ℕ → Bool) → ℕ → ℕ → ℕ
open_behind opens closes depth b = if opens b then depth + 1 else if closes b then depth - 1 else depth

-- the most that are open at once in a text, where so many are open before it
abbrev pub most_open_from : (ℕ → Bool) → (ℕ → Bool) → ℕ → List ℕ → ℕ
most_open_from opens closes depth [] = depth
most_open_from opens closes depth (b ∷ text) = max depth (most_open_from opens closes (open_behind opens closes depth b) text)

-- `[` and `]`
abbrev pub opens_attributes : ℕ → Bool
opens_attributes b = b == 91

abbrev pub closes_attributes : ℕ → Bool
closes_attributes b = b == 93

-- `(` or `<`, and `)` or `>`
abbrev pub opens_bracket : ℕ → Bool
opens_bracket b = b == 40 || b == 60

abbrev pub closes_bracket : ℕ → Bool
closes_bracket b = b == 41 || b == 62

-- how many `[` are open behind a byte
abbrev pub attributes_behind : ℕ → ℕ → ℕ
attributes_behind depth b = open_behind opens_attributes closes_attributes depth b

-- how many of `(` and `<` are open behind a byte
abbrev pub brackets_behind : ℕ → ℕ → ℕ
brackets_behind depth b = open_behind opens_bracket closes_bracket depth b

-- the most `[` that are open at once
abbrev pub most_attributes : List ℕ → ℕ
most_attributes text = most_open_from opens_attributes closes_attributes 0 text

-- the most `(` and `<` together that are open at once
abbrev pub most_brackets : List ℕ → ℕ
most_brackets text = most_open_from opens_bracket closes_bracket 0 text

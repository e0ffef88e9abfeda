-- Signs that are joined to the words beside them.
use Rattle.std.specs.Prelude.{ℕ, List, [], ◌∷◌, codes}

-- the words with nothing in front of them, wherever they stand
abbrev pub tight_in_front : List (List ℕ)
tight_in_front = codes ";" ∷ codes "," ∷ codes ")" ∷ codes "]" ∷ codes "<" ∷ codes ">" ∷ codes "?" ∷ codes "..." ∷ []

-- the words with nothing behind them, whatever follows
abbrev pub tight_behind : List (List ℕ)
tight_behind = codes "(" ∷ codes "[" ∷ codes "<" ∷ []

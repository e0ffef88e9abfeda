-- Which rules of this section always take a byte. Written by tools/grammar.py, and not edited by hand.
use Rattle.std.proofs.Common.{List, [], ◌∷◌, Bool, true, false}

abbrev pub today_words : List Bool
today_words =
    true ∷ true ∷ true ∷ true ∷ true ∷ true ∷ true ∷ true ∷ true ∷ true ∷ true ∷ true ∷
    true ∷ true ∷ true ∷ true ∷ true ∷ true ∷ true ∷ false ∷ true ∷ true ∷ true ∷ true ∷
    false ∷ true ∷ true ∷ false ∷ false ∷ true ∷ true ∷ false ∷ false ∷ true ∷
    []

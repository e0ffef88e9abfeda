-- Which rules of this section always take a byte. Written by tools/grammar.py, and not edited by hand.
use Rattle.std.proofs.Common.{List, [], ◌∷◌, Bool, true, false}

abbrev pub other_members : List Bool
other_members =
    false ∷ true ∷ true ∷ true ∷ false ∷ true ∷ true ∷ true ∷ true ∷ false ∷ true ∷ false ∷
    true ∷ false ∷ true ∷ true ∷ false ∷ true ∷ false ∷ true ∷ true ∷
    []

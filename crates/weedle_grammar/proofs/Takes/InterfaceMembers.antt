-- Which rules of this section always take a byte. Written by tools/grammar.py, and not edited by hand.
use Rattle.std.proofs.Common.{List, [], ◌∷◌, Bool, true, false}

abbrev pub interface_members : List Bool
interface_members =
    false ∷ false ∷ false ∷ true ∷ true ∷ true ∷ true ∷ false ∷ true ∷ false ∷ true ∷ false ∷
    true ∷ false ∷ true ∷ true ∷ true ∷ true ∷ true ∷ true ∷ true ∷ true ∷ false ∷ true ∷
    true ∷ true ∷ true ∷ true ∷ true ∷ true ∷ false ∷ true ∷
    []

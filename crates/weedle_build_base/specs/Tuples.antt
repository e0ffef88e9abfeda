-- The trees of tuples.
use Rattle.std.specs.Prelude.{[], ◌∷◌}
use Rattle.weedle_grammar.specs.Trees.{Tree, Node, trees}

module _ {T U : Type 0} (first : T → Tree) (second : U → Tree) where
  -- two values, one after the other
  abbrev pub pair_tree : T × U → Tree
  pair_tree v = Node (trees (first v.0 ∷ second v.1 ∷ []))

  -- three values
  module _ {V : Type 0} (third : V → Tree) where
    abbrev pub triple_tree : T × U × V → Tree
    triple_tree v = Node (trees (first v.0 ∷ second v.1 ∷ third v.2 ∷ []))

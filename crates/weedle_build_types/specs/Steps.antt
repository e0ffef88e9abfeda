-- What a part of a rule that may be absent is built of, and what is put into a list.
use Rattle.std.specs.Prelude.{◌≡◌, ℕ, List, [], ◌∷◌, ◌++◌, Result, Ok}
use Rattle.weedle_build_base.specs.Built.{Builds, Visits}
use Rattle.weedle_build_base.specs.declared.at.At.{At}
use Rattle.weedle_grammar.specs.Rows.{Opt}
use Rattle.weedle_grammar.specs.Meaning.{Plain}
use Rattle.weedle_grammar.specs.written.Table.{row_of, shape_of}
use Rattle.weedle_grammar.specs.Trees.{Tree, Alt}

-- rule r takes rule x, or nothing
pub record IsOption (x r : ℕ) : Type 0 where
  pub row : row_of r ≡ Opt x
  pub shape : shape_of r ≡ Plain

-- what was built is a value and this place, and the value was put behind those of the list
pub record Keeps {V E : Type 0} (old new : List V) (built : Result (V × At) E) (at : At) : Type 0 where
  pub value : V
  pub was : built ≡ Ok (value, at)
  pub items : new ≡ old ++ (value ∷ [])

-- what was built is a member; a value of which it is alternative i was put behind those of the list, and its node was visited
pub record KeepsAs {T V E : Type 0} (tree_of : T → Tree) (tree : V → Tree) (i : ℕ) (old new : List V) (built : Result (T × At) E) (at : At) : Type 0 where
  pub member : T
  pub from : At
  pub was : built ≡ Ok (member, from)
  pub value : V
  pub is : tree value ≡ Alt i (tree_of member)
  pub items : new ≡ old ++ (value ∷ [])
  pub visited : Visits from.place from.visits at.place at.visits

-- a value that the rule reads from place p to place q was put behind those of the list, and each node of it visited
pub record Adds {V : Type 0} (text : List ℕ) (r : ℕ) (tree : V → Tree) (old new : List V) (p v q w : ℕ) : Type 0 where
  pub value : V
  pub items : new ≡ old ++ (value ∷ [])
  pub built : Builds text r (tree value) p v q w

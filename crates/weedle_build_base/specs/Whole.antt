-- What the building of a whole text answers.
use Rattle.std.specs.Prelude.{◌≡◌, ◌≤◌, ◌+◌, ◌*◌, ℕ, List, [], ◌∷◌, drop, length}
use Rattle.weedle_grammar.specs.Trees.{Tree, Gives}
use Rattle.weedle_grammar.specs.written.Table.{Reads}
use Rattle.weedle_grammar.specs.written.Table.Definitions.{DEFINITIONS}
use Rattle.weedle_grammar.specs.Size.{size}

-- at the front of the text the rule of definitions reads this tree, up to some end; the remaining
-- input is the text from there; and each node of the tree was visited once
pub record IsBuilt (text : List ℕ) (tree : Tree) (rest : List ℕ) (visits : ℕ) : Type 0 where
  pub end : ℕ
  pub reads : Reads text DEFINITIONS 0 (Gives (tree ∷ []) end)
  pub rest_is : rest ≡ drop end text
  pub counts : visits ≡ size tree
  pub few : visits ≤ 10000 * (length text + 1)

-- The nodes above the one that comes next, while nodes are gone through: the words of private contracts.
use Rattle.std.specs.Prelude.{◌≡◌, ◌<◌, ◌+◌, ◌↔◌, IsTrue, ℕ, List, [], ◌∷◌, length}
use Rattle.weedle_syntax.specs.declared.node.Node.{Node}
use Rattle.weedle_syntax.specs.Tree.{node_at}
use Rattle.weedle_places.specs.declared.above.Above.{Above}
use Rattle.weedle_places.specs.Names.{HasNamed}

-- a node of depth d, than which all nodes behind it are deeper up to node i
pub record IsAbove (ns : List Node) (i d : ℕ) (above : Above) : Type 0 where
  pub before : above.node < i
  pub depth : (node_at ns above.node).depth ≡ d
  pub deeper : (j : ℕ) → above.node < j → j < i → d < (node_at ns j).depth
  pub named : IsTrue above.named ↔ HasNamed ns above.node i

-- one of each depth from d on
abbrev pub AreAbove : List Node → ℕ → ℕ → List Above → Type 0
AreAbove ns i d [] = Unit {0}
AreAbove ns i d (a ∷ rest) = IsAbove ns i d a × AreAbove ns i (d + 1) rest

-- the node before node i, and all nodes above it
pub record AreOpen (ns : List Node) (i : ℕ) (above : List Above) : Type 0 where
  pub each : AreAbove ns i 0 above
  pub none : i ≡ 0 → above ≡ []
  pub many : (j : ℕ) → j + 1 ≡ i → length above ≡ (node_at ns j).depth + 1

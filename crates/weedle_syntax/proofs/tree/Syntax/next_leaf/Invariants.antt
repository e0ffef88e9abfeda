use Rattle.std.proofs.Common.{ℕ, ◌≤◌, ◌<◌}
use Rattle.weedle_syntax.specs.Tree.{IsLeaf}
use Rattle.weedle_syntax.proofs.tree.Syntax.next_leaf.Given as goal

abbrev pub invariant-loop-node : goal.invariant-loop-node
invariant-loop-node l = (j : ℕ) → l.fn.from ≤ j → j < l.node → IsLeaf l.self-inside.nodes.items j → ⊥

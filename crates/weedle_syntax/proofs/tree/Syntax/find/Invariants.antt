use Rattle.std.proofs.Common.{ℕ, ◌≤◌, ◌<◌}
use Rattle.weedle_syntax.specs.Tree.{HasRule}
use Rattle.weedle_syntax.proofs.tree.Syntax.find.Given as goal

abbrev pub invariant-loop-node : goal.invariant-loop-node
invariant-loop-node l = (j : ℕ) → l.fn.from ≤ j → j < l.node → HasRule l.self-inside.nodes.items l.fn.rule j → ⊥

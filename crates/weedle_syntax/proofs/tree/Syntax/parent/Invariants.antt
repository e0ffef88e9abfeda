use Rattle.weedle_syntax.proofs.WalkFacts.{IsBack}
use Rattle.weedle_syntax.proofs.tree.Syntax.parent.Given as goal

abbrev pub invariant-loop-at : goal.invariant-loop-at
invariant-loop-at l = IsBack l.self-inside.nodes.items l.fn.node l.at

abbrev pub decreases-loop-at : goal.decreases-loop-at
decreases-loop-at l = l.at

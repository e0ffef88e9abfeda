use Rattle.std.proofs.Common.{◌-◌}
use Rattle.weedle_syntax.proofs.WalkFacts.{Halving}
use Rattle.weedle_syntax.proofs.tree.Syntax.at.Given as goal

abbrev pub invariant-loop-low : goal.invariant-loop-low
invariant-loop-low l = Halving l.self-inside.nodes.items l.fn.byte l.low l.high

abbrev pub decreases-loop-low : goal.decreases-loop-low
decreases-loop-low l = l.high - l.low

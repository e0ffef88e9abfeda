use Rattle.std.proofs.Common.{◌-◌, length}
use Rattle.weedle_syntax.specs.Table.{IsWanted}
use Rattle.weedle_syntax.proofs.LayFacts.{Repeating}
use Rattle.weedle_syntax.proofs.walk.items.many.Given as goal

abbrev pub invariant-loop-end : goal.invariant-loop-end
invariant-loop-end l = Repeating l.table.text l.fn.node.rule l.fn.item l.fn.depth l.fn.node.start l.fn.node.end l.at l.inner.items × IsWanted l.table l.fn.node.rule l.at

abbrev pub decreases-loop-end : goal.decreases-loop-end
decreases-loop-end l = length l.table.text - l.at

use Rattle.std.proofs.Common.{◌-◌, length}
use Rattle.weedle_syntax.specs.Table.{IsWanted}
use Rattle.weedle_syntax.proofs.LayFacts.{Following}
use Rattle.weedle_syntax.proofs.walk.items.tail.Given as goal

abbrev pub invariant-loop-behind : goal.invariant-loop-behind
invariant-loop-behind l = Following l.table.text l.fn.node.rule l.fn.item l.fn.separator l.fn.depth l.fn.node.start l.fn.node.end l.at l.inner.items × IsWanted l.table l.fn.node.rule l.at

abbrev pub decreases-loop-behind : goal.decreases-loop-behind
decreases-loop-behind l = length l.table.text - l.at

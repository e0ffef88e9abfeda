use Rattle.std.proofs.Common.{◌+◌}
use Rattle.weedle_places.proofs.ValueFacts.{StandTo}
use Rattle.weedle_places.proofs.members.values_at.Given as goal

abbrev pub invariant-loop-i : goal.invariant-loop-i
invariant-loop-i l = StandTo l.syntax.dialect l.syntax.text l.syntax.nodes (l.fn.definition + 1) l.i l.values.items

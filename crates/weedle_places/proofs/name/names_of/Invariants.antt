use Rattle.weedle_places.specs.Above.{AreOpen}
use Rattle.weedle_places.proofs.NameFacts.{AreSaidTo}
use Rattle.weedle_places.proofs.name.names_of.Given as goal

abbrev pub invariant-loop-i : goal.invariant-loop-i
invariant-loop-i l = record { above : AreOpen l.syntax.nodes l.i l.above.items; said : AreSaidTo l.syntax.text l.syntax.nodes l.i l.names.items }

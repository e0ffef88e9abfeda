use Rattle.weedle_places.specs.Above.{AreOpen}
use Rattle.weedle_places.proofs.ReferenceFacts.{AreReferencesTo}
use Rattle.weedle_places.proofs.reference.references_of.Given as goal

abbrev pub invariant-loop-i : goal.invariant-loop-i
invariant-loop-i l = record { above : AreOpen l.syntax.nodes l.i l.above.items; said : AreReferencesTo l.syntax.text l.syntax.nodes l.fn.name l.i l.found.items }

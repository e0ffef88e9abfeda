use Rattle.weedle_places.proofs.PartFacts.{IsPassing}
use Rattle.weedle_places.proofs.members.members_of.Given as goal

abbrev pub invariant-loop-part : goal.invariant-loop-part
invariant-loop-part l = IsPassing l.syntax.dialect l.syntax.text l.syntax.nodes l.fn.kind l.part-iterator

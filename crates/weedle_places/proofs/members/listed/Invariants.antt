use Rattle.weedle_places.proofs.PartFacts.{IsListing}
use Rattle.weedle_places.proofs.members.listed.Given as goal

abbrev pub invariant-loop-item : goal.invariant-loop-item
invariant-loop-item l = IsListing l.syntax.dialect l.syntax.text l.syntax.nodes l.fn.list l.members.items l.item-iterator

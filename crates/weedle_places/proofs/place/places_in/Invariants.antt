use Rattle.std.proofs.Common.{length}
use Rattle.weedle_places.proofs.PlaceFacts.{Placing}
use Rattle.weedle_places.proofs.place.places_in.Given as goal

abbrev pub invariant-loop-piece : goal.invariant-loop-piece
invariant-loop-piece l = Placing l.syntax.dialect l.syntax.text l.syntax.nodes 1 (length l.syntax.text) l.found.items l.piece-iterator

use Rattle.std.proofs.Common.{◌≤◌, length}
use Rattle.weedle_places.proofs.CommentFacts.{AreFound}
use Rattle.weedle_places.proofs.comments.comments_in.Given as goal

abbrev pub invariant-loop-i : goal.invariant-loop-i
invariant-loop-i l = record { within : l.i ≤ length l.syntax.nodes; found : AreFound l.syntax.nodes l.fn.span l.i l.found.items }

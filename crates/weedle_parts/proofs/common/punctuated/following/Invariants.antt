use Rattle.std.proofs.Common.{◌≡◌, List, ◌∷◌, length}
use denote.Text.{Utf8}
use denote.Shadow.{shadow}
use Rattle.weedle_parts.specs.Lists.{next_step}
use Rattle.weedle_base.proofs.Reached.{Reached}
use Rattle.weedle_parts.proofs.common.punctuated.following.Given as goal

abbrev pub invariant-loop-list : goal.invariant-loop-list
invariant-loop-list g l = shadow (Utf8 l.rest) × ((vs : List g.row.T.Denot) × (l.list.items ≡ l.fn.first ∷ vs) × Reached (next_step g.T.Parse.reading g.S.Parse.reading) l.input vs l.rest)

abbrev pub decreases-loop-list : goal.decreases-loop-list
decreases-loop-list g l = length l.rest

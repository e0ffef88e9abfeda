use Rattle.std.proofs.Common.{map}
use Rattle.weedle_view.proofs.AncestryFacts.{Chain, left}
use Rattle.weedle_view.proofs.ancestry.ancestors.Given as goal

abbrev pub invariant-loop-next : goal.invariant-loop-next
invariant-loop-next l = Chain l.definitions l.fn.name (map (λ m. m.now) l.met.items) l.last (map (λ d. d.now) l.above.items)

abbrev pub decreases-loop-next : goal.decreases-loop-next
decreases-loop-next l = left l.definitions (map (λ m. m.now) l.met.items)

use Rattle.weedle_starts.specs.Tries.{IsUnmet}
use Rattle.weedle_refusal.proofs.ListingFacts.{Lists}
use Rattle.weedle_refusal.proofs.diagnose.unmet.unmet_at.Given as goal

abbrev pub invariant-loop-number : goal.invariant-loop-number
invariant-loop-number l = Lists l.found.items l.number (λ r. IsUnmet l.ends.text l.fn.start r l.fn.place)

use Rattle.weedle_refusal.specs.Marks.{IsSet}
use Rattle.weedle_refusal.proofs.ListingFacts.{Lists}
use Rattle.weedle_refusal.proofs.diagnose.noted.Furthest.rules.Given as goal

abbrev pub invariant-loop-number : goal.invariant-loop-number
invariant-loop-number l = Lists l.found.items l.number (IsSet l.self.marks)

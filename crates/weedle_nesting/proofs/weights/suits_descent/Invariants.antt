use Rattle.std.proofs.Common.{length}
use Rattle.weedle_nesting.specs.Bare.{bare}
use Rattle.weedle_nesting.specs.Nesting.{most_brackets, opens_bracket, closes_bracket}
use Rattle.weedle_nesting.proofs.NestingFacts.{IsSeen}
use Rattle.weedle_nesting.proofs.WeightFacts.{IsWeighed}
use Rattle.weedle_nesting.proofs.weights.suits_descent.Given as goal

abbrev pub invariant-marks : goal.invariant-marks
invariant-marks l =
    IsSeen opens_bracket closes_bracket (length l.fn.raw) (most_brackets (bare l.fn.raw)) l.rest l.seen.brackets
    × IsWeighed l.fn.raw l.rest l.seen.depth l.seen.weight l.seen.work

abbrev pub decreases-marks : goal.decreases-marks
decreases-marks l = length l.rest

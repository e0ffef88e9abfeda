use Rattle.std.proofs.Common.{length}
use Rattle.weedle_nesting.specs.Bare.{bare}
use Rattle.weedle_nesting.specs.Nesting.{most_attributes, most_brackets, opens_attributes, closes_attributes, opens_bracket, closes_bracket}
use Rattle.weedle_nesting.proofs.NestingFacts.{IsSeen}
use Rattle.weedle_nesting.proofs.look.look_over.Given as goal

abbrev pub invariant-marks : goal.invariant-marks
invariant-marks l =
    IsSeen opens_attributes closes_attributes (length l.text) (most_attributes (bare l.text)) l.rest l.look.attributes
    × IsSeen opens_bracket closes_bracket (length l.text) (most_brackets (bare l.text)) l.rest l.look.brackets

abbrev pub decreases-marks : goal.decreases-marks
decreases-marks l = length l.rest

use Rattle.std.proofs.Common.{subst}
use Rattle.weedle_refusal.proofs.HintFacts.{goes_on}
use Rattle.weedle_refusal.specs.Hint.{MayBegin}
use Rattle.weedle_refusal.proofs.hint.mended.may_go_on.Goals as goal

pub returns : goal.returns
returns c =
    let took = c.skip_trivia.ensures in
    λ may. goes_on took.reads took.rest_is (subst MayBegin c.as_bytes.ensures.value (c.may_begin.ensures may))

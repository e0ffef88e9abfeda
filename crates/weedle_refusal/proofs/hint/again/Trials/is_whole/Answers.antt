use Rattle.std.proofs.Common.{length, subst}
use Rattle.weedle_rules.specs.Outcomes.{EndsAt}
use Rattle.weedle_refusal.proofs.hint.again.Trials.is_whole.Goals as goal

pub returns : goal.returns
returns c = λ is. subst (λ r. EndsAt c.args.text.now r 0 (length c.args.text.now)) c.start.ensures (c.in_ok-whole.ensures is)

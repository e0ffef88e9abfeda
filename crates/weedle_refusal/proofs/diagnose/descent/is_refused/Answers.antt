use Rattle.std.proofs.Common.{subst, None}
use Rattle.std.specs.Bool.{OnTrue}
use Rattle.weedle_rules.specs.Cells.{HasEnd}
use Rattle.weedle_starts.specs.Tries.{TriesHere}
use Rattle.weedle_refusal.proofs.diagnose.descent.is_refused.Goals as goal

pub returns-clause-end : goal.returns-clause-end
returns-clause-end c = λ h. subst (λ b. OnTrue b (HasEnd c.args.text.now c.args.rule c.args.place None)) h c.refuses.ensures.end

pub returns-clause-here : goal.returns-clause-here
returns-clause-here c = λ h. subst (λ b. OnTrue b (TriesHere c.args.text.now c.args.rule c.args.place)) h c.refuses.ensures.here

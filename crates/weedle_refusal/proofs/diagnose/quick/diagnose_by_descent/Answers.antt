use Rattle.weedle_refusal.proofs.StepFacts.{found_at_most}
use Rattle.weedle_refusal.proofs.diagnose.quick.diagnose_by_descent.Goals as goal

pub returns-clause-few : goal.returns-clause-few
returns-clause-few c = found_at_most c.args.text.now c.args.start c.limits_of-limits.result.steps c.diagnose_within.new.limits.steps c.in_ok-found.found c.in_ok-found.ensures.steps c.limits_of-limits.ensures

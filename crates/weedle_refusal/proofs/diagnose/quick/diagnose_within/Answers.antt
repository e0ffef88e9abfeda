use Rattle.weedle_refusal.proofs.diagnose.quick.diagnose_within.Goals as goal

pub returns-clause-is : goal.returns-clause-is
returns-clause-is c = c.diagnose_within_in.ensures.is

pub returns-clause-steps : goal.returns-clause-steps
returns-clause-steps c = c.diagnose_within_in.ensures.steps

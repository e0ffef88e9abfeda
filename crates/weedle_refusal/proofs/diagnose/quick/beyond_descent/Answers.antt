use Rattle.weedle_refusal.proofs.diagnose.quick.beyond_descent.Goals as goal

pub returns-in-Weedle2-clause-is : goal.returns-in-Weedle2-clause-is
returns-in-Weedle2-clause-is c = rw c.in-Weedle2.is c.over_table.ensures.is

pub returns-in-Weedle2-clause-deep : goal.returns-in-Weedle2-clause-deep
returns-in-Weedle2-clause-deep c = λ by. c.over_table.ensures.memory

pub returns-in-Today-clause-deep : goal.returns-in-Today-clause-deep
returns-in-Today-clause-deep c = λ by. absurd (let never : ⊥ = cc (by, c.in-Today.is) in never)

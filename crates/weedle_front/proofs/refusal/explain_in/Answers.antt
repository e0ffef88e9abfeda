use Rattle.std.proofs.Common.{◌≡◌}
use Rattle.weedle_front.proofs.refusal.explain_in.Goals as goal

pub returns-in-Weedle2-clause-explains : goal.returns-in-Weedle2-clause-explains
returns-in-Weedle2-clause-explains c = rw c.in-Weedle2.is c.explain_weedle2.ensures.explains

pub returns-in-Weedle2-clause-deep : goal.returns-in-Weedle2-clause-deep
returns-in-Weedle2-clause-deep c = λ by. c.explain_weedle2.ensures.memory

pub returns-in-Today-clause-explains : goal.returns-in-Today-clause-explains
returns-in-Today-clause-explains c = rw c.in-Today.is c.refusal_in.ensures.explains

pub returns-in-Today-clause-deep : goal.returns-in-Today-clause-deep
returns-in-Today-clause-deep c = λ by. absurd (let never : ⊥ = cc (by, c.in-Today.is) in never)

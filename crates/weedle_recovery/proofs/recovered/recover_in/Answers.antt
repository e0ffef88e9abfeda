use Rattle.std.proofs.Common.{◌≡◌}
use Rattle.weedle_recovery.proofs.recovered.recover_in.Goals as goal

pub returns-in-Weedle2-clause-whole : goal.returns-in-Weedle2-clause-whole
returns-in-Weedle2-clause-whole c = rw c.in-Weedle2.is c.recover_weedle2.ensures.whole

pub returns-in-Weedle2-clause-cover : goal.returns-in-Weedle2-clause-cover
returns-in-Weedle2-clause-cover c = rw c.in-Weedle2.is c.recover_weedle2.ensures.cover

pub returns-in-Weedle2-clause-deep : goal.returns-in-Weedle2-clause-deep
returns-in-Weedle2-clause-deep c = λ by. c.recover_weedle2.ensures.memory

pub returns-in-Today-clause-deep : goal.returns-in-Today-clause-deep
returns-in-Today-clause-deep c = λ by. absurd (let never : ⊥ = cc (by, c.in-Today.is) in never)

use Rattle.weedle_memo.proofs.ResumeFacts.{opt_some, opt_none}
use Rattle.std.proofs.Common.{refl}
use Rattle.weedle_memo.proofs.CoveredFacts.{opt_covered}
use Rattle.weedle_memo.specs.Closure.{memory_of}
use Rattle.weedle_memo.proofs.machine.items.resume_opt.Goals as goal

pub returns-in-Some-clause-turn : goal.returns-in-Some-clause-turn
returns-in-Some-clause-turn c = opt_some c.requires.row c.requires.waits (rw c.in-Some.is at c.requires.came)

pub returns-in-None-clause-turn : goal.returns-in-None-clause-turn
returns-in-None-clause-turn c = opt_none c.requires.row c.requires.waits (rw c.in-None.is at c.requires.came)

pub returns-in-Some-clause-covered : goal.returns-in-Some-clause-covered
returns-in-Some-clause-covered c = opt_covered (memory_of c.args.reader.now) c.args.outcome c.requires.row c.requires.waits c.requires.came c.requires.met

pub returns-in-None-clause-covered : goal.returns-in-None-clause-covered
returns-in-None-clause-covered c = opt_covered (memory_of c.args.reader.now) c.args.outcome c.requires.row c.requires.waits c.requires.came c.requires.met

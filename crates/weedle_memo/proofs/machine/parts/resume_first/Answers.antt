use Rattle.std.proofs.Common.{refl}
use Rattle.weedle_memo.proofs.ResumeFacts.{first_some, first_over, first_on}
use Rattle.weedle_memo.proofs.CoveredFacts.{first_some_covered, first_over_covered, first_on_covered}
use Rattle.weedle_memo.specs.Closure.{memory_of}
use Rattle.weedle_memo.proofs.machine.parts.resume_first.Goals as goal

pub returns-in-Some-clause-turn : goal.returns-in-Some-clause-turn
returns-in-Some-clause-turn c = first_some c.requires.open c.requires.row c.requires.waits (rw c.in-Some.is at c.requires.came)

pub returns-then-part-len-clause-turn : goal.returns-then-part-len-clause-turn
returns-then-part-len-clause-turn c = first_on c.requires.open c.requires.row c.requires.waits (rw c.in-None.is at c.requires.came) c.len.ensures c.if-part-len.true c.rule.ensures.value c.rule.ensures.low refl refl refl refl

pub returns-else-part-len-clause-turn : goal.returns-else-part-len-clause-turn
returns-else-part-len-clause-turn c = first_over c.requires.open c.requires.row c.requires.waits (rw c.in-None.is at c.requires.came) c.len.ensures c.if-part-len.false refl refl refl

pub returns-in-Some-clause-covered : goal.returns-in-Some-clause-covered
returns-in-Some-clause-covered c = first_some_covered (memory_of c.args.reader.now) c.requires.row c.requires.waits c.requires.covered (rw c.in-Some.is at c.requires.came) (rw c.in-Some.is at c.requires.met)

pub returns-then-part-len-clause-covered : goal.returns-then-part-len-clause-covered
returns-then-part-len-clause-covered c = first_on_covered (memory_of c.args.reader.now) c.requires.row c.requires.waits c.requires.covered _ _ refl refl (rw c.in-None.is at c.requires.came) refl

pub returns-else-part-len-clause-covered : goal.returns-else-part-len-clause-covered
returns-else-part-len-clause-covered c = first_over_covered (memory_of c.args.reader.now) c.requires.row c.requires.waits c.requires.covered (rw c.in-None.is at c.requires.came) c.len.ensures c.if-part-len.false

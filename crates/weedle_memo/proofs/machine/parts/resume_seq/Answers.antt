use Rattle.std.proofs.Common.{refl}
use Rattle.weedle_memo.proofs.ResumeFacts.{seq_none, seq_over, seq_on}
use Rattle.weedle_memo.proofs.CoveredFacts.{seq_none_covered, seq_over_covered, seq_on_covered}
use Rattle.weedle_memo.specs.Closure.{memory_of}
use Rattle.weedle_memo.proofs.machine.parts.resume_seq.Goals as goal

pub returns-in-None-clause-turn : goal.returns-in-None-clause-turn
returns-in-None-clause-turn c = seq_none c.requires.open c.requires.row c.requires.waits (rw c.in-None.is at c.requires.came)

pub returns-then-part-len-clause-turn : goal.returns-then-part-len-clause-turn
returns-then-part-len-clause-turn c = seq_on c.requires.open c.requires.row c.requires.waits (rw c.in-Some.is at c.requires.came) c.len.ensures c.if-part-len.true c.rule.ensures.value c.rule.ensures.low refl refl refl refl

pub returns-else-part-len-clause-turn : goal.returns-else-part-len-clause-turn
returns-else-part-len-clause-turn c = seq_over c.requires.open c.requires.row c.requires.waits (rw c.in-Some.is at c.requires.came) c.len.ensures c.if-part-len.false refl refl refl

pub returns-in-None-clause-covered : goal.returns-in-None-clause-covered
returns-in-None-clause-covered c = seq_none_covered (memory_of c.args.reader.now) c.requires.row c.requires.waits c.requires.covered (rw c.in-None.is at c.requires.came)

pub returns-then-part-len-clause-covered : goal.returns-then-part-len-clause-covered
returns-then-part-len-clause-covered c = seq_on_covered (memory_of c.args.reader.now) c.requires.row c.requires.waits c.requires.covered _ _ refl refl (rw c.in-Some.is at c.requires.came) (rw c.in-Some.is at c.requires.met) refl

pub returns-else-part-len-clause-covered : goal.returns-else-part-len-clause-covered
returns-else-part-len-clause-covered c = seq_over_covered (memory_of c.args.reader.now) c.requires.row c.requires.waits c.requires.covered (rw c.in-Some.is at c.requires.came) (rw c.in-Some.is at c.requires.met) c.len.ensures c.if-part-len.false

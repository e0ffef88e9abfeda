use Rattle.std.proofs.Common.{refl, rules}
use Rattle.weedle_memo.proofs.IfFacts.{if_last, if_none, if_on, if_then, if_else}
use Rattle.weedle_memo.proofs.IfCovered.{if_last_covered, if_none_covered, if_on_covered, if_else_covered}
use Rattle.weedle_memo.specs.Closure.{memory_of}
use Rattle.weedle_memo.proofs.machine.parts.resume_if.Goals as goal

pub returns-then-frame-many-clause-turn : goal.returns-then-frame-many-clause-turn
returns-then-frame-many-clause-turn c = if_last c.requires.open c.requires.row c.requires.waits c.len-many.ensures c.if-frame-many.true c.requires.came

pub returns-in-None-clause-turn : goal.returns-in-None-clause-turn
returns-in-None-clause-turn c = if_none c.requires.open c.requires.row c.requires.waits c.len-many.ensures c.if-frame-many.false (rw c.in-None.is at c.requires.came)

pub returns-then-part-many-clause-turn : goal.returns-then-part-many-clause-turn
returns-then-part-many-clause-turn c = if_on c.requires.open c.requires.row c.requires.waits c.len-many.ensures c.if-frame-many.false (rw c.in-Some.is at c.requires.came) c.choose-present.ensures c.if-part-many.true c.rule.ensures.value c.rule.ensures.low refl refl refl refl refl refl

pub returns-then-present-clause-turn : goal.returns-then-present-clause-turn
returns-then-present-clause-turn c = if_then c.requires.open c.requires.row c.requires.waits c.len-many.ensures c.if-frame-many.false (rw c.in-Some.is at c.requires.came) c.choose-present.ensures c.if-part-many.false c.if-present.true (search rules) refl refl refl refl refl

pub returns-else-present-clause-turn : goal.returns-else-present-clause-turn
returns-else-present-clause-turn c = if_else c.requires.open c.requires.row c.requires.waits c.len-many.ensures c.if-frame-many.false (rw c.in-Some.is at c.requires.came) c.choose-present.ensures c.if-part-many.false c.if-present.false refl refl refl

pub returns-then-frame-many-clause-covered : goal.returns-then-frame-many-clause-covered
returns-then-frame-many-clause-covered c = if_last_covered (memory_of c.args.reader.now) c.requires.open c.requires.row c.requires.waits c.requires.covered c.args.outcome c.len-many.ensures c.if-frame-many.true c.requires.came c.requires.met

pub returns-in-None-clause-covered : goal.returns-in-None-clause-covered
returns-in-None-clause-covered c = if_none_covered (memory_of c.args.reader.now) c.requires.open c.requires.row c.requires.waits c.requires.covered c.len-many.ensures c.if-frame-many.false (rw c.in-None.is at c.requires.came)

pub returns-then-part-many-clause-covered : goal.returns-then-part-many-clause-covered
returns-then-part-many-clause-covered c = if_on_covered (memory_of c.args.reader.now) c.requires.open c.requires.row c.requires.waits c.requires.covered _ _ c.len-many.ensures c.if-frame-many.false refl refl (rw c.in-Some.is at c.requires.came) (rw c.in-Some.is at c.requires.met) refl

pub returns-then-present-clause-covered : goal.returns-then-present-clause-covered
returns-then-present-clause-covered c = if_on_covered (memory_of c.args.reader.now) c.requires.open c.requires.row c.requires.waits c.requires.covered _ _ c.len-many.ensures c.if-frame-many.false refl refl (rw c.in-Some.is at c.requires.came) (rw c.in-Some.is at c.requires.met) refl

pub returns-else-present-clause-covered : goal.returns-else-present-clause-covered
returns-else-present-clause-covered c = if_else_covered (memory_of c.args.reader.now) c.requires.open c.requires.row c.requires.waits c.requires.covered c.len-many.ensures c.if-frame-many.false (rw c.in-Some.is at c.requires.came) (rw c.in-Some.is at c.requires.met) c.choose-present.ensures c.if-part-many.false c.if-present.false

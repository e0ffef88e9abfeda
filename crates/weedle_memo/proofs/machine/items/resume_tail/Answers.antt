use Rattle.std.proofs.Common.{rules, arith}
use Rattle.weedle_memo.proofs.ResumeFacts.{tail_last, tail_none, tail_stays, tail_item, tail_again}
use Rattle.std.proofs.Common.{refl, ap, sym, ◌∙◌}
use Rattle.weedle_memo.specs.declared.frame.Frame.{Frame}
use Rattle.weedle_memo.proofs.CoveredFacts.{tail_last_covered, tail_none_covered, tail_stays_covered, tail_item_covered, tail_again_covered}
use Rattle.weedle_memo.specs.Closure.{memory_of}
use Rattle.weedle_memo.proofs.machine.items.resume_tail.Goals as goal

pub returns-then-frame-gt1-clause-turn : goal.returns-then-frame-gt1-clause-turn
returns-then-frame-gt1-clause-turn c = tail_last c.requires.open c.requires.row c.requires.waits c.if-frame-gt1.true c.requires.came

pub returns-in-None-clause-turn : goal.returns-in-None-clause-turn
returns-in-None-clause-turn c = tail_none c.requires.open c.requires.row c.requires.waits c.if-frame-gt1.false (rw c.in-None.is at c.requires.came)

pub returns-then-frame-eq1-clause-turn : goal.returns-then-frame-eq1-clause-turn
returns-then-frame-eq1-clause-turn c = tail_again c.requires.open c.requires.row c.requires.waits c.if-frame-eq1.true (rw c.in-Some.is at c.requires.came) c.behind.ensures

pub returns-then-end-frame-clause-turn : goal.returns-then-end-frame-clause-turn
returns-then-end-frame-clause-turn c = tail_stays c.requires.open c.requires.row c.requires.waits c.if-frame-gt1.false c.if-frame-eq1.false c.if-end-frame.true (rw c.in-Some.is at c.requires.came)

pub returns-else-end-frame-clause-turn : goal.returns-else-end-frame-clause-turn
returns-else-end-frame-clause-turn c = tail_item c.requires.open c.requires.row c.requires.waits c.if-frame-gt1.false c.if-frame-eq1.false c.if-end-frame.false (rw c.in-Some.is at c.requires.came) c.behind-else-end-frame.ensures (search rules)

pub returns-then-frame-gt1-clause-covered : goal.returns-then-frame-gt1-clause-covered
returns-then-frame-gt1-clause-covered c = tail_last_covered (memory_of c.args.reader.now) c.args.outcome c.requires.row c.requires.waits c.requires.covered c.requires.came c.requires.met c.if-frame-gt1.true

pub returns-in-None-clause-covered : goal.returns-in-None-clause-covered
returns-in-None-clause-covered c = tail_none_covered (memory_of c.args.reader.now) c.args.outcome c.requires.row c.requires.waits c.requires.covered c.requires.came c.requires.met c.if-frame-gt1.false c.in-None.is

pub returns-then-frame-eq1-clause-covered : goal.returns-then-frame-eq1-clause-covered
returns-then-frame-eq1-clause-covered c = tail_again_covered (memory_of c.args.reader.now) _ _ c.requires.row c.requires.waits c.requires.covered c.if-frame-eq1.true (rw c.in-Some.is at c.requires.met) (ap (λ (v : Frame). v.rule) c.behind.ensures) (ap (λ (v : Frame). v.place) c.behind.ensures)

pub returns-then-end-frame-clause-covered : goal.returns-then-end-frame-clause-covered
returns-then-end-frame-clause-covered c = tail_stays_covered (memory_of c.args.reader.now) c.args.outcome c.requires.row c.requires.waits c.requires.covered c.requires.came c.requires.met c.if-frame-gt1.false c.if-frame-eq1.false c.in-Some.is c.if-end-frame.true

pub returns-else-end-frame-clause-covered : goal.returns-else-end-frame-clause-covered
returns-else-end-frame-clause-covered c = tail_item_covered (memory_of c.args.reader.now) _ _ c.requires.row c.requires.waits c.if-frame-gt1.false c.if-frame-eq1.false (rw c.in-Some.is at c.requires.met) (ap (λ (v : Frame). v.rule) c.behind-else-end-frame.ensures) (ap (λ (v : Frame). v.place) c.behind-else-end-frame.ensures) (ap (λ (v : Frame). v.part) c.behind-else-end-frame.ensures)

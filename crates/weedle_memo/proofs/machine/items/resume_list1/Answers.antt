use Rattle.std.proofs.Common.{rules}
use Rattle.weedle_memo.proofs.ResumeFacts.{list1_last, list1_none, list1_on}
use Rattle.std.proofs.Common.{refl, ap, sym, ◌∙◌}
use Rattle.weedle_memo.specs.declared.frame.Frame.{Frame}
use Rattle.weedle_memo.proofs.CoveredFacts.{list1_last_covered, list1_first_covered, list1_on_covered}
use Rattle.weedle_memo.specs.Closure.{memory_of}
use Rattle.weedle_memo.proofs.machine.items.resume_list1.Goals as goal

pub returns-then-frame-gt0-clause-turn : goal.returns-then-frame-gt0-clause-turn
returns-then-frame-gt0-clause-turn c = list1_last c.requires.open c.requires.row c.requires.waits c.if-frame-gt0.true c.requires.came

pub returns-in-None-clause-turn : goal.returns-in-None-clause-turn
returns-in-None-clause-turn c = list1_none c.requires.open c.requires.row c.requires.waits c.if-frame-gt0.false (rw c.in-None.is at c.requires.came)

pub returns-in-Some-clause-turn : goal.returns-in-Some-clause-turn
returns-in-Some-clause-turn c = list1_on c.requires.open c.requires.row c.requires.waits c.if-frame-gt0.false (rw c.in-Some.is at c.requires.came) c.behind.ensures (search rules)

pub returns-then-frame-gt0-clause-covered : goal.returns-then-frame-gt0-clause-covered
returns-then-frame-gt0-clause-covered c = list1_last_covered (memory_of c.args.reader.now) c.args.outcome c.requires.row c.requires.waits c.requires.covered c.requires.came c.requires.met c.if-frame-gt0.true

pub returns-in-None-clause-covered : goal.returns-in-None-clause-covered
returns-in-None-clause-covered c = list1_first_covered (memory_of c.args.reader.now) c.args.outcome c.requires.row c.requires.waits c.requires.covered c.requires.came c.requires.met c.if-frame-gt0.false c.in-None.is

pub returns-in-Some-clause-covered : goal.returns-in-Some-clause-covered
returns-in-Some-clause-covered c = list1_on_covered (memory_of c.args.reader.now) _ _ c.requires.row c.requires.waits c.if-frame-gt0.false (rw c.in-Some.is at c.requires.met) (ap (λ (v : Frame). v.rule) c.behind.ensures) (ap (λ (v : Frame). v.place) c.behind.ensures)

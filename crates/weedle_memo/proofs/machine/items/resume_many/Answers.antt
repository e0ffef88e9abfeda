use Rattle.weedle_memo.proofs.ResumeFacts.{many_last, many_none, many_stays, many_on}
use Rattle.std.proofs.Common.{refl, ap, sym, ◌∙◌}
use Rattle.weedle_memo.specs.declared.frame.Frame.{Frame}
use Rattle.std.proofs.Common.{rules}
use Rattle.weedle_memo.proofs.CoveredFacts.{many_last_covered, many_first_covered, many_on_covered, none_some, same_some}
use Rattle.weedle_memo.specs.Closure.{memory_of}
use Rattle.weedle_memo.proofs.machine.items.resume_many.Goals as goal

pub returns-then-frame-gt0-clause-turn : goal.returns-then-frame-gt0-clause-turn
returns-then-frame-gt0-clause-turn c = many_last c.requires.open c.requires.row c.requires.waits c.if-frame-gt0.true c.requires.came

pub returns-in-None-clause-turn : goal.returns-in-None-clause-turn
returns-in-None-clause-turn c = many_none c.requires.open c.requires.row c.requires.waits c.if-frame-gt0.false (rw c.in-None.is at c.requires.came)

pub returns-then-end-frame-clause-turn : goal.returns-then-end-frame-clause-turn
returns-then-end-frame-clause-turn c = many_stays c.requires.open c.requires.row c.requires.waits c.if-frame-gt0.false c.if-end-frame.true (rw c.in-Some.is at c.requires.came)

pub returns-else-end-frame-clause-turn : goal.returns-else-end-frame-clause-turn
returns-else-end-frame-clause-turn c = many_on c.requires.open c.requires.row c.requires.waits c.if-frame-gt0.false c.if-end-frame.false (rw c.in-Some.is at c.requires.came) c.behind.ensures

pub returns-then-frame-gt0-clause-covered : goal.returns-then-frame-gt0-clause-covered
returns-then-frame-gt0-clause-covered c = many_last_covered (memory_of c.args.reader.now) c.args.outcome c.requires.row c.requires.waits c.requires.covered c.requires.came c.requires.met c.if-frame-gt0.true

pub returns-in-None-clause-covered : goal.returns-in-None-clause-covered
returns-in-None-clause-covered c = many_first_covered (memory_of c.args.reader.now) c.args.outcome c.requires.row c.requires.waits c.requires.covered c.requires.came c.requires.met c.if-frame-gt0.false (λ v e. none_some (sym c.in-None.is ∙ e))

pub returns-then-end-frame-clause-covered : goal.returns-then-end-frame-clause-covered
returns-then-end-frame-clause-covered c = many_first_covered (memory_of c.args.reader.now) c.args.outcome c.requires.row c.requires.waits c.requires.covered c.requires.came c.requires.met c.if-frame-gt0.false (λ v e. same_some (sym c.in-Some.is ∙ e) c.if-end-frame.true)

pub returns-else-end-frame-clause-covered : goal.returns-else-end-frame-clause-covered
returns-else-end-frame-clause-covered c = many_on_covered (memory_of c.args.reader.now) _ _ c.requires.row c.requires.waits c.if-frame-gt0.false (rw c.in-Some.is at c.requires.met) (ap (λ (v : Frame). v.rule) c.behind.ensures) (ap (λ (v : Frame). v.place) c.behind.ensures)

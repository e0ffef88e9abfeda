use Rattle.std.proofs.Common.{false, reverse, ◌≡◌}
use Rattle.weedle_grammar.specs.written.Table.{row_of}
use Rattle.weedle_starts.specs.Tries.{has_no_parts}
use Rattle.weedle_memo.specs.Closure.{memory_of, IsWorked}
use Rattle.weedle_memo.proofs.StepFacts.{look_room, looked_covered, looked_waits, looked_open, state_same, state_leaf, state_begun, falls_same, row_covered_on, all_closed_on, closed_same}
use Rattle.weedle_memo.proofs.OwnFacts.{next_own}
use Rattle.weedle_memo.proofs.read.advance.Goals as goal

pub look-requires-clause-within : goal.look-requires-clause-within
look-requires-clause-within c = c.requires.waits.within

pub look-requires-clause-room : goal.look-requires-clause-room
look-requires-clause-room c = look_room c.requires.waits

pub resume-requires-clause-opened : goal.resume-requires-clause-opened
resume-requires-clause-opened c = looked_open c.requires.opened c.look.ensures.counted

pub resume-requires-clause-waits : goal.resume-requires-clause-waits
resume-requires-clause-waits c = looked_waits c.requires.waits c.look.ensures.counted

pub resume-requires-clause-came : goal.resume-requires-clause-came
resume-requires-clause-came c = c.in-Known.ensures.look

pub resume-requires-clause-met : goal.resume-requires-clause-met
resume-requires-clause-met c = c.in-Known.ensures.met

pub resume-requires-clause-covered : goal.resume-requires-clause-covered
resume-requires-clause-covered c = looked_covered c.args.reader.now.text (memory_of c.args.reader.now) c.args.frame _ c.args.place c.look.ensures.counted c.requires.covered

pub work-requires-clause-within : goal.work-requires-clause-within
work-requires-clause-within c = c.requires.waits.within

pub returns-in-Known-clause-state : goal.returns-in-Known-clause-state
returns-in-Known-clause-state c = state_same c.requires.opened c.requires.absent c.requires.others c.look.ensures.counted c.resume.ensures.same c.resume.ensures.turn c.resume.ensures.covered

pub returns-in-Known-clause-falls : goal.returns-in-Known-clause-falls
returns-in-Known-clause-falls c = falls_same c.args.reader.now.text c.resume.result.0 c.requires.waits c.look.ensures.counted c.resume.ensures.same

pub resume-requires-in-Known-2-clause-covered : goal.resume-requires-in-Known-2-clause-covered
resume-requires-in-Known-2-clause-covered c =
    let worked : IsWorked (memory_of c.args.reader.now) (memory_of c.work.new.reader) c.args.rule c.args.place c.in-Known-2.outcome = rw c.in-Known-2.is at c.in_ok-outcome-in-Unknown.ensures.leaf in
    row_covered_on {m = memory_of c.args.reader.now} {n = memory_of c.work.new.reader} worked.extends c.look.new.frame c.args.place (looked_covered c.args.reader.now.text (memory_of c.args.reader.now) c.args.frame _ c.args.place c.look.ensures.counted c.requires.covered)

pub returns-in-Known-2-clause-state : goal.returns-in-Known-2-clause-state
returns-in-Known-2-clause-state c =
    let worked : IsWorked (memory_of c.args.reader.now) (memory_of c.work.new.reader) c.args.rule c.args.place c.in-Known-2.outcome = rw c.in-Known-2.is at c.in_ok-outcome-in-Unknown.ensures.leaf in
    state_leaf {m = memory_of c.args.reader.now} {n = memory_of c.work.new.reader} (reverse c.args.waiting.now.items) c.args.frame c.requires.opened c.requires.waits c.requires.absent c.requires.others c.look.ensures.counted worked.extends c.resume-in-Known-2.ensures.same c.resume-in-Known-2.ensures.turn c.resume-in-Known-2.ensures.covered

pub returns-in-Known-2-clause-closed : goal.returns-in-Known-2-clause-closed
returns-in-Known-2-clause-closed c =
    let worked : IsWorked (memory_of c.args.reader.now) (memory_of c.work.new.reader) c.args.rule c.args.place c.in-Known-2.outcome = rw c.in-Known-2.is at c.in_ok-outcome-in-Unknown.ensures.leaf in
    all_closed_on {m = memory_of c.args.reader.now} {n = memory_of c.work.new.reader} worked.extends c.requires.closed

pub returns-in_ok-push-in-Unknown-2-clause-state : goal.returns-in_ok-push-in-Unknown-2-clause-state
returns-in_ok-push-in-Unknown-2-clause-state c =
    let parts : (memory_of c.work.new.reader ≡ memory_of c.args.reader.now) × (has_no_parts (row_of c.args.rule) ≡ false) = rw c.in-Unknown-2.is at c.in_ok-outcome-in-Unknown.ensures.leaf in
    state_begun {m = memory_of c.args.reader.now} {n = memory_of c.work.new.reader} c.args.waiting.now.items c.push.new.self.items c.args.frame parts.0 c.requires.opened c.requires.waits c.requires.absent c.requires.others c.look.ensures.counted c.in_ok-push-in-Unknown-2.ensures.items c.in-Unknown.ensures.look c.begin.ensures.opened c.begin.ensures.cell c.begin.ensures.turn c.begin.ensures.covered c.requires.covered

pub returns-in_ok-push-in-Unknown-2-clause-closed : goal.returns-in_ok-push-in-Unknown-2-clause-closed
returns-in_ok-push-in-Unknown-2-clause-closed c =
    let parts : (memory_of c.work.new.reader ≡ memory_of c.args.reader.now) × (has_no_parts (row_of c.args.rule) ≡ false) = rw c.in-Unknown-2.is at c.in_ok-outcome-in-Unknown.ensures.leaf in
    closed_same {m = memory_of c.args.reader.now} {n = memory_of c.work.new.reader} parts.0 c.requires.closed

pub work-requires-clause-own : goal.work-requires-clause-own
work-requires-clause-own c = next_own c.args.reader.now.text (memory_of c.args.reader.now) (reverse c.args.waiting.now.items) c.args.frame _ c.requires.others c.requires.waits

use Rattle.std.proofs.lemmas.Grind.{common_steps}
use Rattle.std.proofs.Common.{length, arith, ap, ◌∙◌, ◌≡◌}
use Rattle.weedle_memo.specs.Closure.{memory_of}
use Rattle.weedle_memo.proofs.GrowthFacts.{closing, met_closing}
use Rattle.weedle_memo.proofs.StepFacts.{parent_waits, state_after, first_is, first_met, emptied, open_on, waits_on, row_covered_on, end_on, all_closed_on}
use Rattle.weedle_memo.proofs.OwnFacts.{top_own}
use Rattle.weedle_memo.proofs.read.read_parts.Goals as goal

pub cells-preserved : goal.cells-preserved
cells-preserved c =
    let is = ap memory_of c.in_ok-keep.ensures.kept in
    let e = closing (memory_of c.settle.new.reader) (memory_of c.keep.new.self) c.in_ok-done.done.rule c.in_ok-done.done.place c.in_ok-done.outcome is c.in_ok-done.ensures.done.tried in (
      (c.keep.ensures.same.0 ∙ c.settle.ensures.same.0 ∙ c.cells.invariant.0.0, c.keep.ensures.same.1 ∙ c.settle.ensures.same.1 ∙ c.cells.invariant.0.1, c.keep.ensures.same.2 ∙ c.settle.ensures.same.2 ∙ c.cells.invariant.0.2),
      state_after {m = memory_of c.settle.new.reader} c.pop.new.self.items c.in-Some.parent c.in_ok-done.ensures.done c.in-Some.ensures.items {n = memory_of c.keep.new.self} e c.resume-next.ensures.same c.resume-next.ensures.turn c.resume-next.ensures.covered,
      all_closed_on {m = memory_of c.settle.new.reader} {n = memory_of c.keep.new.self} e c.in_ok-done.ensures.closed,
    )

pub resume-next-requires-clause-opened : goal.resume-next-requires-clause-opened
resume-next-requires-clause-opened c =
    let is = ap memory_of c.in_ok-keep.ensures.kept in
    let e = closing (memory_of c.settle.new.reader) (memory_of c.keep.new.self) c.in_ok-done.done.rule c.in_ok-done.done.place c.in_ok-done.outcome is c.in_ok-done.ensures.done.tried in
    let w = parent_waits {m = memory_of c.settle.new.reader} c.pop.new.self.items c.in-Some.parent c.in_ok-done.ensures.done c.in-Some.ensures.items in
    open_on {m = memory_of c.settle.new.reader} {n = memory_of c.keep.new.self} e c.in-Some.parent w.0

pub resume-next-requires-clause-waits : goal.resume-next-requires-clause-waits
resume-next-requires-clause-waits c =
    let is = ap memory_of c.in_ok-keep.ensures.kept in
    let e = closing (memory_of c.settle.new.reader) (memory_of c.keep.new.self) c.in_ok-done.done.rule c.in_ok-done.done.place c.in_ok-done.outcome is c.in_ok-done.ensures.done.tried in
    let w = parent_waits {m = memory_of c.settle.new.reader} c.pop.new.self.items c.in-Some.parent c.in_ok-done.ensures.done c.in-Some.ensures.items in
    waits_on {m = memory_of c.settle.new.reader} {n = memory_of c.keep.new.self} e c.in-Some.parent w.1

pub resume-next-requires-clause-came : goal.resume-next-requires-clause-came
resume-next-requires-clause-came c =
    let is = ap memory_of c.in_ok-keep.ensures.kept in
    let e = closing (memory_of c.settle.new.reader) (memory_of c.keep.new.self) c.in_ok-done.done.rule c.in_ok-done.done.place c.in_ok-done.outcome is c.in_ok-done.ensures.done.tried in
    end_on {m = memory_of c.settle.new.reader} {n = memory_of c.keep.new.self} e c.in-Some.parent c.in_ok-done.ensures.done.over.right

pub resume-next-requires-clause-covered : goal.resume-next-requires-clause-covered
resume-next-requires-clause-covered c =
    let is = ap memory_of c.in_ok-keep.ensures.kept in
    let e = closing (memory_of c.settle.new.reader) (memory_of c.keep.new.self) c.in_ok-done.done.rule c.in_ok-done.done.place c.in_ok-done.outcome is c.in_ok-done.ensures.done.tried in
    let w = parent_waits {m = memory_of c.settle.new.reader} c.pop.new.self.items c.in-Some.parent c.in_ok-done.ensures.done c.in-Some.ensures.items in
    row_covered_on {m = memory_of c.settle.new.reader} {n = memory_of c.keep.new.self} e c.in-Some.parent c.in_ok-done.done.place w.2.covered

pub resume-next-requires-clause-met : goal.resume-next-requires-clause-met
resume-next-requires-clause-met c =
    let is = ap memory_of c.in_ok-keep.ensures.kept in
    let e = closing (memory_of c.settle.new.reader) (memory_of c.keep.new.self) c.in_ok-done.done.rule c.in_ok-done.done.place c.in_ok-done.outcome is c.in_ok-done.ensures.done.tried in
    met_closing (memory_of c.settle.new.reader) (memory_of c.keep.new.self) c.in_ok-done.done.rule c.in_ok-done.done.place c.in_ok-done.outcome is

pub returns-in-None-clause-ends : goal.returns-in-None-clause-ends
returns-in-None-clause-ends c =
    let is = ap memory_of c.in_ok-keep.ensures.kept in
    let e = closing (memory_of c.settle.new.reader) (memory_of c.keep.new.self) c.in_ok-done.done.rule c.in_ok-done.done.place c.in_ok-done.outcome is c.in_ok-done.ensures.done.tried in
    let none : length c.settle.new.waiting.items ≡ 0 = grind (arith, common_steps, c.in-None.ensures.cases) in
    end_on {m = memory_of c.settle.new.reader} {n = memory_of c.keep.new.self} e c.in_ok-done.done (first_is {m = memory_of c.settle.new.reader} c.in_ok-done.ensures.done (emptied c.settle.new.waiting.items none) (memory_of c.keep.new.self) c.keep.ensures.same.2)

pub returns-in-None-clause-met : goal.returns-in-None-clause-met
returns-in-None-clause-met c =
    let is = ap memory_of c.in_ok-keep.ensures.kept in
    let e = closing (memory_of c.settle.new.reader) (memory_of c.keep.new.self) c.in_ok-done.done.rule c.in_ok-done.done.place c.in_ok-done.outcome is c.in_ok-done.ensures.done.tried in
    let none : length c.settle.new.waiting.items ≡ 0 = grind (arith, common_steps, c.in-None.ensures.cases) in
    first_met {m = memory_of c.settle.new.reader} c.in_ok-done.ensures.done (emptied c.settle.new.waiting.items none) (memory_of c.keep.new.self) c.keep.ensures.same.2 (met_closing (memory_of c.settle.new.reader) (memory_of c.keep.new.self) c.in_ok-done.done.rule c.in_ok-done.done.place c.in_ok-done.outcome is)

pub returns-in-None-clause-closed : goal.returns-in-None-clause-closed
returns-in-None-clause-closed c =
    let is = ap memory_of c.in_ok-keep.ensures.kept in
    let e = closing (memory_of c.settle.new.reader) (memory_of c.keep.new.self) c.in_ok-done.done.rule c.in_ok-done.done.place c.in_ok-done.outcome is c.in_ok-done.ensures.done.tried in
    all_closed_on {m = memory_of c.settle.new.reader} {n = memory_of c.keep.new.self} e c.in_ok-done.ensures.closed

pub keep-requires-clause-own : goal.keep-requires-clause-own
keep-requires-clause-own c = top_own c.settle.new.reader.text (memory_of c.settle.new.reader) _ _ c.in_ok-done.ensures.done.others

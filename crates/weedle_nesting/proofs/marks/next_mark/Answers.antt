use Rattle.std.proofs.Common.{◌∙◌, sym, arith, add-one}
use Rattle.weedle_nesting.proofs.MarkFacts.{mark_at, no_mark, slice_behind}
use Rattle.weedle_nesting.proofs.marks.next_mark.Goals as goal

pub returns-then-is_mark-clause-first : goal.returns-then-is_mark-clause-first
returns-then-is_mark-clause-first c =
    let found = mark_at c.args.bytes.now c.loop-i.i c.loop-i-test.true c.loop-i.invariant (sym c.is_mark.ensures ∙ c.if-is_mark.true) in
    rw (slice_behind, add-one, found)

pub returns-clause-first : goal.returns-clause-first
returns-clause-first c = sym (no_mark c.args.bytes.now (λ k l. c.loop-i.invariant k (omega (arith, l, c.loop-i-test.false))))

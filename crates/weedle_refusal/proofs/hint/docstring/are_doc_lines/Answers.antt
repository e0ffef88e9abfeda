use Rattle.std.proofs.Common.{arith}
use Rattle.weedle_refusal.specs.Hint.{one, more}
use Rattle.weedle_refusal.proofs.hint.docstring.are_doc_lines.Goals as goal

pub loop-end-init : goal.loop-end-init
loop-end-init c = let first = c.in-Some.ensures in (first.order, first.within, one first.line)

pub loop-end-preserved : goal.loop-end-preserved
loop-end-preserved c =
    let before = c.loop-end.invariant in
    let next = c.in-Some-next_line_end.ensures in
    (omega (arith, before.0, next.further), next.within, more before.2 next.line)

use Rattle.std.proofs.Common.{arith}
use Rattle.weedle_refusal.proofs.MarkingFacts.{marking_start, marking_clear, marking_done}
use Rattle.weedle_refusal.proofs.diagnose.marking.mark_all.Goals as goal

pub loop-left-init : goal.loop-left-init
loop-left-init c = (omega arith, marking_start c.args.ends.now.text c.args.start c.args.last c.args.marks.now c.mark.new.marks c.requires.last (record { low = omega arith; within = omega arith; laid = omega arith }) c.requires.clear c.mark.ensures)

pub close_cell-requires-clause-before : goal.close_cell-requires-clause-before
close_cell-requires-clause-before c = marking_clear c.args.ends.now.text c.args.start c.loop-left.marks c.loop-left.left _ c.in-Some.ensures.found.clear c.loop-left.invariant.1

pub returns : goal.returns
returns c = marking_done c.args.ends.now.text c.args.start c.loop-left.marks c.loop-left.left (omega arith) c.loop-left.invariant.1

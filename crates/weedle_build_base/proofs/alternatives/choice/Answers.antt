use Rattle.std.proofs.Common.{sym}
use Rattle.weedle_build_base.proofs.Choices.{choosing_start, choosing_tried, choosing_next, choosing_here, choosing_end, choice_shape}
use Rattle.weedle_build_base.proofs.alternatives.choice.Goals as goal

pub loop-part-init : goal.loop-part-init
loop-part-init c = choosing_start c.requires.due c.in-First.ensures

pub end-requires : goal.end-requires
end-requires c = choosing_tried c.loop-part.invariant (sym c.in-Some.ensures)

pub unreachable-requires-in_default-at : goal.unreachable-requires-in_default-at
unreachable-requires-in_default-at c = choosing_end c.loop-part.invariant (sym c.in_default-at.ensures)

pub returns-in-Some-end : goal.returns-in-Some-end
returns-in-Some-end c =
    choosing_here c.loop-part.invariant (sym c.in-Some.ensures) c.in-First.ensures (choice_shape _ _ c.requires.row) c.in-Some-end.ensures.right

pub loop-part-preserved : goal.loop-part-preserved
loop-part-preserved c = choosing_next c.loop-part.invariant (sym c.in-Some.ensures) c.in_default-end.ensures.right

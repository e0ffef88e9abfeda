use Rattle.std.proofs.Common.{◌-◌, length}
use Rattle.weedle_build_base.proofs.Choices.{Choosing}
use Rattle.weedle_build_base.proofs.alternatives.choice.Given as goal

abbrev pub invariant-loop-part : goal.invariant-loop-part
invariant-loop-part l = Choosing l.fn.table.text.now l.parts.numbers.now l.place l.i

abbrev pub decreases-loop-part : goal.decreases-loop-part
decreases-loop-part l = length l.parts.numbers.now - l.i

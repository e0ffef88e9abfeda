use Rattle.std.proofs.Common.{arith, ◌*◌}
use Rattle.weedle_refusal.proofs.BitFacts.{clear_on}
use Rattle.weedle_refusal.proofs.diagnose.marks.behind_marks.Goals as goal

pub loop-left-preserved : goal.loop-left-preserved
loop-left-preserved c = (omega arith, clear_on c.args.marks.now c.loop-left.left (64 * c.args.words) (omega arith) c.if-marks-left-eq0.true c.loop-left.invariant.1)

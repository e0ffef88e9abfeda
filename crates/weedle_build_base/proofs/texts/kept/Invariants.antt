use Rattle.std.proofs.Common.{◌-◌, ◌≤◌}
use Rattle.weedle_build_base.proofs.Keeping.{Keeping}
use Rattle.weedle_build_base.proofs.texts.kept.Given as goal

abbrev pub invariant-loop-inner : goal.invariant-loop-inner
invariant-loop-inner l = (l.i ≤ l.k) × Keeping l.fn.table.text.now l.rule l.fn.at.place l.i (l.k - l.i) l.start

abbrev pub decreases-loop-inner : goal.decreases-loop-inner
decreases-loop-inner l = l.k - l.i

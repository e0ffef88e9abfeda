use Rattle.std.proofs.Common.{◌-◌, map, length}
use Rattle.weedle_build_base.proofs.Repeats.{Repeating}
use Rattle.weedle_build_base.proofs.generic.VecBuild.build.Given as goal

abbrev pub invariant-items : goal.invariant-items
invariant-items g l = Repeating l.fn.table.text.now l.item l.fn.at.place l.fn.at.visits (map g.T.Build.tree l.list.items) l.here.place l.here.visits

abbrev pub decreases-items : goal.decreases-items
decreases-items g l = length l.fn.table.text.now - l.here.place

use Rattle.std.proofs.Common.{◌-◌, map, length}
use Rattle.weedle_build_base.proofs.Separated.{Listing}
use Rattle.weedle_build_base.proofs.lists.items.Given as goal

abbrev pub invariant-loop-behind : goal.invariant-loop-behind
invariant-loop-behind g l = Listing l.fn.table.text.now l.item l.separator l.fn.at.place l.fn.at.visits (map g.T.Build.tree l.list.items) l.here.place l.here.visits

abbrev pub decreases-loop-behind : goal.decreases-loop-behind
decreases-loop-behind g l = length l.fn.table.text.now - l.here.place

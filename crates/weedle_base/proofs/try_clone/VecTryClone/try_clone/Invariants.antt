use Rattle.std.proofs.Common.{take}
use Rattle.weedle_base.specs.Alike.{all_alike}
use Rattle.weedle_base.proofs.try_clone.VecTryClone.try_clone.Given as goal

abbrev pub invariant-loop-item : goal.invariant-loop-item
invariant-loop-item g l = all_alike g.T.TryClone.alike l.copy.items (take l.item-index l.self.items)

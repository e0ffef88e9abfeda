use Rattle.std.proofs.Common.{◌≡◌, take}
use Rattle.weedle_syntax.proofs.narrow.narrowed.Given as goal

abbrev pub invariant-loop-i : goal.invariant-loop-i
invariant-loop-i l = l.narrow.items ≡ take l.i l.nodes

use Rattle.std.proofs.Common.{◌≡◌, ◌++◌, take}
use Rattle.weedle_syntax.proofs.narrow.widen.Given as goal

abbrev pub invariant-loop-i : goal.invariant-loop-i
invariant-loop-i l = l.nodes.items ≡ l.fn.nodes.items ++ take l.i l.narrow

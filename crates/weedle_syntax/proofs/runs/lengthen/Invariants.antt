use Rattle.std.proofs.Common.{◌≡◌, ◌++◌, take}
use Rattle.weedle_syntax.proofs.runs.lengthen.Given as goal

-- those so far follow what was there
abbrev pub invariant-loop-i : goal.invariant-loop-i
invariant-loop-i l = l.longs.items ≡ l.fn.longs.items ++ take l.i l.found

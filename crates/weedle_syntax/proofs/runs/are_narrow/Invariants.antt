use Rattle.std.proofs.Common.{take}
use Rattle.std.specs.Prelude.{All}
use Rattle.weedle_syntax.specs.Compact.{IsNarrow}
use Rattle.weedle_syntax.proofs.runs.are_narrow.Given as goal

-- those so far are
abbrev pub invariant-loop-node : goal.invariant-loop-node
invariant-loop-node l = All IsNarrow (take l.node-index l.found)

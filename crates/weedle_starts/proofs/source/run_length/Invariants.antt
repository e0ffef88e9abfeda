use Rattle.std.proofs.Common.{◌≡◌, ◌+◌, ◌-◌, ◌≤◌, length, drop}
use Rattle.weedle_grammar.specs.Rows.{run_length}
use Rattle.weedle_starts.proofs.source.run_length.Given as goal

abbrev pub invariant-loop-taken : goal.invariant-loop-taken
invariant-loop-taken l = (run_length l.class l.left ≡ l.taken + run_length l.class (drop l.taken l.left)) × (l.taken ≤ length l.left)

abbrev pub decreases-loop-taken : goal.decreases-loop-taken
decreases-loop-taken l = length l.left - l.taken

use Rattle.std.proofs.Common.{◌≡◌, drop}
use Rattle.weedle_grammar.specs.Rows.{begins}
use Rattle.weedle_grammar.proofs.leaf_ends.begins.Given as goal

abbrev pub invariant-loop-i : goal.invariant-loop-i
invariant-loop-i l = begins l.bytes l.left ≡ begins (drop l.i l.bytes) (drop l.i l.left)

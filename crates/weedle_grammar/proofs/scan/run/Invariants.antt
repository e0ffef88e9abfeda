use Rattle.std.proofs.Common.{◌≡◌, ℕ, ◌<◌, true, get_or}
use Rattle.weedle_grammar.specs.Rows.{is_in}
use Rattle.weedle_grammar.proofs.scan.run.Given as goal

abbrev pub invariant-loop-i : goal.invariant-loop-i
invariant-loop-i l = (k : ℕ) → k < l.i → is_in l.class (get_or l.bytes k 0) ≡ true

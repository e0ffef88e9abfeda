use Rattle.std.proofs.Common.{◌≡◌, length}
use Rattle.weedle_grammar.specs.written.Bound.{table_count}
use Rattle.weedle_refusal.specs.Ways.{AreWays}
use Rattle.weedle_refusal.proofs.diagnose.ways.lay_ways.Given as goal

abbrev pub invariant-loop-number : goal.invariant-loop-number
invariant-loop-number l = (length l.ways ≡ table_count) × AreWays l.ways l.number

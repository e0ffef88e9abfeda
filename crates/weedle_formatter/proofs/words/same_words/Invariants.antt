use Rattle.std.proofs.Common.{length, ◌-◌}
use Rattle.weedle_formatter.proofs.WordFacts.{Going}
use Rattle.weedle_formatter.proofs.words.same_words.Given as goal

abbrev pub invariant-loop-i : goal.invariant-loop-i
invariant-loop-i l = Going l.raw l.nodes l.out l.others l.i l.j

abbrev pub decreases-loop-i : goal.decreases-loop-i
decreases-loop-i l = length l.nodes - l.i

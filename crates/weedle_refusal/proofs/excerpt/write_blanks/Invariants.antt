use Rattle.std.proofs.Common.{◌≡◌}
use Rattle.std.specs.Io.KnownBytes.{Appends}
use Rattle.weedle_refusal.specs.Excerpt.{along, behind, blank}
use Rattle.weedle_refusal.proofs.excerpt.write_blanks.Given as goal

-- what belongs to the characters so far is written
abbrev pub invariant-loop-character : goal.invariant-loop-character
invariant-loop-character g l =
    (l.at ≡ behind 0 l.yielded) × Appends (g.W.Write.contents l.fn.out) (g.W.Write.contents l.out) (along (blank l.first) 0 l.yielded)

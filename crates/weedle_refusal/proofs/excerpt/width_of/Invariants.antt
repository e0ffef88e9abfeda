use Rattle.std.proofs.Common.{◌≡◌}
use Rattle.weedle_refusal.specs.Excerpt.{behind}
use Rattle.weedle_refusal.proofs.excerpt.width_of.Given as goal

abbrev pub invariant-loop-character : goal.invariant-loop-character
invariant-loop-character l = l.at ≡ behind 0 l.yielded

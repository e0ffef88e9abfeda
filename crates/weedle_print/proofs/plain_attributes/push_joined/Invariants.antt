use Rattle.std.proofs.Common.{codes, string_bytes}
use Rattle.weedle_print.proofs.SeparatedFacts.{SeparatedSoFar}
use Rattle.weedle_print.proofs.plain_attributes.push_joined.Given as goal
use Rattle.weedle_spell.specs.Tokens.{word}

-- the values before were put there
abbrev pub invariant-loop-value : goal.invariant-loop-value
invariant-loop-value g l = SeparatedSoFar g.P.Print.spelling (word (codes ",")) l.values.items l.value-index l.is_first (string_bytes l.fn.out) (string_bytes l.out)

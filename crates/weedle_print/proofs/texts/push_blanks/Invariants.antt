use Rattle.std.proofs.Common.{string_bytes}
use Rattle.weedle_print.proofs.texts.push_blanks.Given as goal
use Rattle.weedle_print.specs.Adds.{Adds}
use Rattle.weedle_print.specs.Apart.{so_many}

-- as many spaces were put there so far
abbrev pub invariant-blanks : goal.invariant-blanks
invariant-blanks l = Adds (so_many l.put) (string_bytes l.fn.out) (string_bytes l.out)

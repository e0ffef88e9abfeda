use Rattle.std.proofs.Common.{map, string_bytes}
use Rattle.weedle_print.proofs.DocFacts.{put_line}
use Rattle.weedle_print.proofs.docstring.DocstringPrint.print.Given as goal
use Rattle.weedle_print.specs.Adds.{Adds}
use Rattle.weedle_spell.specs.Forms.{each}

-- the lines before were put there
abbrev pub invariant-loop-line : goal.invariant-loop-line
invariant-loop-line l = Adds (each put_line (map (λ line. line.now) l.yielded)) (string_bytes l.fn.out) (string_bytes l.out)

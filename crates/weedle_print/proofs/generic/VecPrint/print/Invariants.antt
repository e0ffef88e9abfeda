use Rattle.std.proofs.Common.{take, string_bytes}
use Rattle.weedle_print.proofs.generic.VecPrint.print.Given as goal
use Rattle.weedle_print.specs.Adds.{Adds}
use Rattle.weedle_spell.specs.Forms.{each}

-- the items before were put there
abbrev pub invariant-loop-item : goal.invariant-loop-item
invariant-loop-item g l = Adds (each g.P.Print.spelling (take l.item-index l.value.items)) (string_bytes l.fn.out) (string_bytes l.out)

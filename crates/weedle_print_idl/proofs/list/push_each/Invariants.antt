use Rattle.std.proofs.Common.{take, string_bytes}
use Rattle.weedle_print.specs.Adds.{Adds}
use Rattle.weedle_print_idl.proofs.list.push_each.Given as goal
use Rattle.weedle_spell.specs.Forms.{each}

-- the values before were put there
abbrev pub invariant-loop-item : goal.invariant-loop-item
invariant-loop-item g l = Adds (each g.T.WriteIdl.spelling (take l.item-index l.list)) (string_bytes l.fn.out) (string_bytes l.out)

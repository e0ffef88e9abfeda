use Rattle.std.proofs.Common.{take, string_bytes}
use Rattle.weedle_print.proofs.bodies.push_members.Given as goal
use Rattle.weedle_print.specs.Adds.{Adds}
use Rattle.weedle_spell.specs.Forms.{each}

-- the members before were put there
abbrev pub invariant-loop-member : goal.invariant-loop-member
invariant-loop-member g l = Adds (each g.P.Print.spelling (take l.member-index l.members.items)) (string_bytes l.fn.out) (string_bytes l.out)

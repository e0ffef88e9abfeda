use Rattle.std.proofs.Common.{◌+◌, ◌-◌, ◌≤◌, length, take, vec_len, vec_capacity}
use Rattle.weedle_syntax.specs.Compact.{IsShortened}
use Rattle.weedle_syntax.proofs.runs.shorten.Given as goal

-- those so far are put behind what was there, and there is room for the others
abbrev pub invariant-loop-i : goal.invariant-loop-i
invariant-loop-i l =
    IsShortened l.base (take l.i l.found) l.fn.shorts.items l.shorts.items
    × (vec_len l.shorts + (length l.found - l.i) ≤ vec_capacity l.shorts)

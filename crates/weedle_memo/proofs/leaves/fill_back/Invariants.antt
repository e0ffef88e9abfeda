use Rattle.std.proofs.Common.{◌≤◌, ◌<◌, ◌+◌, length}
use Rattle.weedle_rules.specs.Cells.{turn_number}
use Rattle.weedle_memo.specs.Closure.{memory_of, SameText, Extends}
use Rattle.weedle_memo.proofs.leaves.fill_back.Given as goal

-- the places behind this one are known
abbrev pub invariant-places : goal.invariant-places
invariant-places l =
    (l.fn.place ≤ l.at) × (l.at ≤ l.fn.last) × (0 < l.each) × (l.each ≤ l.fn.looks + 1) × SameText l.fn.reader l.reader
    × Extends (memory_of l.fn.reader) (memory_of l.reader) (turn_number (length l.fn.reader.text) l.fn.rule l.fn.place)

abbrev pub decreases-places : goal.decreases-places
decreases-places l = l.at

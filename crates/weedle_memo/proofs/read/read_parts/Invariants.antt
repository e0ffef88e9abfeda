use Rattle.std.proofs.Common.{◌≡◌, ◌+◌, ◌-◌, ◌*◌, reverse, length}
use Rattle.weedle_grammar.specs.written.Bound.{rule_count}
use Rattle.weedle_memo.specs.Closure.{memory_of, SameText, AreClosed}
use Rattle.weedle_memo.specs.Frames.{IsState}
use Rattle.weedle_memo.proofs.read.read_parts.Given as goal

abbrev pub invariant-cells : goal.invariant-cells
invariant-cells l = SameText l.fn.reader l.reader × IsState l.reader.text (memory_of l.reader) (reverse l.waiting.items) l.frame l.step × AreClosed l.reader.text (memory_of l.reader)

abbrev pub decreases-cells : goal.decreases-cells
decreases-cells l = (length l.fn.reader.text + 1) * rule_count - length l.reader.known

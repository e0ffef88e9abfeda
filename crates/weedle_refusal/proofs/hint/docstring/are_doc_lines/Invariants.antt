use Rattle.std.proofs.Common.{length, ◌-◌, ◌≤◌}
use Rattle.weedle_refusal.specs.Hint.{AreDocLines}
use Rattle.weedle_refusal.proofs.hint.docstring.are_doc_lines.Given as goal

-- the lines so far
abbrev pub invariant-loop-end : goal.invariant-loop-end
invariant-loop-end l = (l.at ≤ l.end) × (l.end ≤ length l.raw) × AreDocLines l.raw l.at l.end

abbrev pub decreases-loop-end : goal.decreases-loop-end
decreases-loop-end l = length l.raw - l.end

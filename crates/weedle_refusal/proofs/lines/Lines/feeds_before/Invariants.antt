use Rattle.std.proofs.Common.{◌-◌}
use Rattle.weedle_refusal.proofs.LineFacts.{Halving}
use Rattle.weedle_refusal.proofs.lines.Lines.feeds_before.Given as goal

abbrev pub invariant-loop-low : goal.invariant-loop-low
invariant-loop-low l = Halving l.self-inside.text.now l.self-inside.starts.items l.fn.place l.low l.high

abbrev pub decreases-loop-low : goal.decreases-loop-low
decreases-loop-low l = l.high - l.low

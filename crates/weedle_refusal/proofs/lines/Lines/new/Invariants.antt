use Rattle.weedle_refusal.proofs.LineFacts.{Found}
use Rattle.weedle_refusal.proofs.lines.Lines.new.Given as goal

abbrev pub invariant-loop-i : goal.invariant-loop-i
invariant-loop-i l = Found l.text l.i l.starts.items

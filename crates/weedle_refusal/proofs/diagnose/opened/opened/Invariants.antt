use Rattle.weedle_refusal.specs.Noted.{AreOpened}
use Rattle.weedle_refusal.proofs.StepFacts.{Opening}
use Rattle.weedle_refusal.proofs.diagnose.opened.opened.Given as goal

abbrev pub invariant-loop-number : goal.invariant-loop-number
invariant-loop-number l = AreOpened l.text l.first l.number l.found
    × Opening l.text l.first.place l.fn.left l.left

use Rattle.std.proofs.Common.{List, ℕ, subst, ◌∙◌}
use Rattle.weedle_refusal.specs.Descent.{DescentStepsIn}
use Rattle.weedle_refusal.specs.Noted.{IsFurthestFrom}
use Rattle.weedle_refusal.proofs.DiagnosisFacts.{diagnosed}
use Rattle.weedle_refusal.proofs.diagnose.quick.diagnose_within_in.Goals as goal
use Rattle.weedle_syntax.specs.Dialects.{start_of}
use Rattle.weedle_syntax.specs.Steps.{Spends}

pub returns-in_ok-expected-in-Ok-clause-is : goal.returns-in_ok-expected-in-Ok-clause-is
returns-in_ok-expected-in-Ok-clause-is c =
    let found = subst (λ (t : List ℕ). IsFurthestFrom t (start_of c.args.dialect) c.args.start c.in-Ok.furthest) (c.new-source.ensures ∙ c.as_bytes.ensures.value) c.in-Ok.ensures.found in
    diagnosed c.args.dialect c.args.text.now c.args.start c.requires c.in-Ok.furthest found c.in_ok-expected-in-Ok.expected.items c.in_ok-expected-in-Ok.ensures.exact c.in_ok-expected-in-Ok.ensures.rising

pub returns-in_ok-expected-in-Ok-clause-steps : goal.returns-in_ok-expected-in-Ok-clause-steps
returns-in_ok-expected-in-Ok-clause-steps c =
    subst (λ (t : List ℕ). Spends (DescentStepsIn c.args.dialect t c.args.start c.in-Ok.furthest.place) c.args.limits.now.steps c.furthest_from.new.left) (c.new-source.ensures ∙ c.as_bytes.ensures.value) c.in-Ok.ensures.steps

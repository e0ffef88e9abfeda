use Rattle.std.proofs.Common.{List, ℕ, subst}
use Rattle.weedle_refusal.proofs.RefusalFacts.{said_from}
use Rattle.weedle_refusal.specs.Furthest.{IsFurthestIn}
use Rattle.weedle_refusal.proofs.behind.refusal_at_in.Goals as goal

pub returns-clause-said : goal.returns-clause-said
returns-clause-said c =
    let F : List ℕ → Type 0 = λ text. IsFurthestIn c.args.dialect text c.in_ok-reached.reached c.in_ok-reached.expected.items in
    said_from c.args.dialect c.requires.0 (subst F c.range_from.ensures.value c.in_ok-reached.ensures.found) c.in_ok-hint.ensures

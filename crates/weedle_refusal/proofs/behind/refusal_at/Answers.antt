use Rattle.std.proofs.Common.{List, ℕ, subst}
use Rattle.weedle_refusal.proofs.RefusalFacts.{said_from}
use Rattle.weedle_refusal.specs.Furthest.{IsFurthest}
use Rattle.weedle_syntax.specs.declared.dialect.Dialect.TheVariants.{Weedle2}
use Rattle.weedle_refusal.proofs.behind.refusal_at.Goals as goal

pub returns-clause-said : goal.returns-clause-said
returns-clause-said c =
    let F : List ℕ → Type 0 = λ text. IsFurthest text c.in_ok-furthest.furthest c.in_ok-furthest.expected.items in
    said_from Weedle2 c.requires.0 (subst F c.range_from.ensures.value c.in_ok-furthest.ensures.found) c.in_ok-hint.ensures

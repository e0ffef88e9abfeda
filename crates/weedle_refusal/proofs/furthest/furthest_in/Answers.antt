use Rattle.std.proofs.Common.{ℕ, List, subst}
use Rattle.weedle_refusal.proofs.FurthestFacts.{furthest_is}
use Rattle.weedle_refusal.specs.Words.{AreWords}
use Rattle.weedle_syntax.specs.declared.dialect.Dialect.TheVariants.{Weedle2}
use Rattle.weedle_refusal.proofs.furthest.furthest_in.Goals as goal

pub returns-clause-found : goal.returns-clause-found
returns-clause-found c =
    let W : List ℕ → Type 0 = λ rules. AreWords rules c.in_ok-expected.expected.items in
    furthest_is Weedle2 c.utf8.text c.in_ok-diagnosis.ensures (subst W c.deref.ensures.value c.in_ok-expected.ensures)

pub returns-clause-short : goal.returns-clause-short
returns-clause-short c =
    let W : List ℕ → Type 0 = λ rules. AreWords rules c.in_ok-expected.expected.items in
    let found = furthest_is Weedle2 c.utf8.text c.in_ok-diagnosis.ensures (subst W c.deref.ensures.value c.in_ok-expected.ensures) in
    found.boundary.0

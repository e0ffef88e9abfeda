use Rattle.std.proofs.Common.{ℕ, List, subst}
use Rattle.weedle_refusal.proofs.FurthestFacts.{furthest_is}
use Rattle.weedle_refusal.specs.Words.{AreWordsIn}
use Rattle.weedle_refusal.proofs.furthest.furthest_by.Goals as goal

pub returns-clause-found : goal.returns-clause-found
returns-clause-found c =
    let W : List ℕ → Type 0 = λ rules. AreWordsIn c.args.dialect rules c.in_ok-words.words.items in
    furthest_is c.args.dialect c.utf8.text c.in_ok-found.ensures.is (subst W c.deref.ensures.value c.in_ok-words.ensures)

pub returns-clause-short : goal.returns-clause-short
returns-clause-short c =
    let W : List ℕ → Type 0 = λ rules. AreWordsIn c.args.dialect rules c.in_ok-words.words.items in
    let found = furthest_is c.args.dialect c.utf8.text c.in_ok-found.ensures.is (subst W c.deref.ensures.value c.in_ok-words.ensures) in
    found.boundary.0

use Rattle.std.proofs.Common.{ℕ, List, Option, subst}
use Rattle.std.specs.Borrow.{Bor}
use Rattle.weedle_front.proofs.RefusalFacts.{refused}
use Rattle.weedle_front.specs.Refusal.{IsUnreadRest}
use Rattle.weedle_front.proofs.refusal.explain.Goals as goal

pub returns-clause-explains : goal.returns-clause-explains
returns-clause-explains c =
    let R : Option (Bor (List ℕ)) → Type 0 = λ rest. IsUnreadRest c.args.raw.now rest in
    refused (subst R c.in-Some.is c.in_ok-rest.ensures) c.in_ok-furthest.ensures.found c.in_ok-hint.ensures

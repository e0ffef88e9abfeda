use Rattle.std.proofs.Common.{◌≡◌, ◌∙◌, ℕ, List, Option, Some, None, ap, subst, sym}
use Rattle.std.specs.Borrow.{Bor}
use Rattle.std.specs.Prelude.{IfOk, option_map}
use Rattle.weedle_recovery.specs.Refusals.{IsSaidBehind, front_of}
use Rattle.weedle_recovery.proofs.refusal.said_of.Goals as goal

pub returns-in-Some-clause-said : goal.returns-in-Some-clause-said
returns-in-Some-clause-said c =
    let part = c.args.part.now in
    let is : front_of c.args.dialect part.rule ≡ Some c.in-Some.front.now = sym c.front_of.ensures ∙ ap (option_map (λ (s : Bor (List ℕ)). s.now)) c.in-Some.is in
    subst (λ (o : Option (List ℕ)). IfOk c.in_body.result (λ refusal. IsSaidBehind c.args.dialect o c.args.raw.now part refusal)) (sym is) c.in_body.ensures.said

pub returns-in-None-clause-said : goal.returns-in-None-clause-said
returns-in-None-clause-said c =
    let part = c.args.part.now in
    let is : front_of c.args.dialect part.rule ≡ None = sym c.front_of.ensures ∙ ap (option_map (λ (s : Bor (List ℕ)). s.now)) c.in-None.is in
    subst (λ (o : Option (List ℕ)). IfOk c.in_definition.result (λ refusal. IsSaidBehind c.args.dialect o c.args.raw.now part refusal)) (sym is) c.in_definition.ensures.said

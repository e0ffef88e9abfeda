use Rattle.std.proofs.Common.{◌≡◌, ◌∙◌, ℕ, List, Option, Some, None, ap, refl, subst, sym}
use Rattle.std.proofs.lemmas.Result.{IfOk-weaker}
use Rattle.std.specs.Borrow.{Bor}
use Rattle.std.specs.Prelude.{option_map}
use Rattle.weedle_refusal.specs.Refusal.{IsSaidFromIn}
use Rattle.weedle_recovery.specs.Refusals.{IsOfSign, IsSaidBy, IsSaidInDefinition, missing_sign}
use Rattle.weedle_recovery.proofs.refusal.in_definition.Goals as goal

pub returns-in-Some-clause-said : goal.returns-in-Some-clause-said
returns-in-Some-clause-said c =
    let said = c.in_ok-said.said in
    let part = c.args.part.now in
    let sign = c.in-Some.sign.now in
    let T : List ℕ → Type 0 = λ text. IsSaidFromIn c.args.dialect text part.definition said in
    let is : missing_sign part ≡ Some sign = sym c.missing_sign.ensures ∙ ap (option_map (λ (s : Bor (List ℕ)). s.now)) c.in-Some.is in
    IfOk-weaker c.of_sign.result (IsOfSign said part.start sign) (IsSaidInDefinition c.args.dialect c.args.raw.now part) (λ refusal h. record {
      said = said;
      is_said = subst T c.range.ensures.value c.in_ok-said.ensures.said;
      by = subst (λ (o : Option (List ℕ)). IsSaidBy o said part.start refusal) (sym is) h;
    }) c.of_sign.ensures.is

pub returns-in-None-clause-said : goal.returns-in-None-clause-said
returns-in-None-clause-said c =
    let said = c.in_ok-said.said in
    let part = c.args.part.now in
    let T : List ℕ → Type 0 = λ text. IsSaidFromIn c.args.dialect text part.definition said in
    let is : missing_sign part ≡ None = sym c.missing_sign.ensures ∙ ap (option_map (λ (s : Bor (List ℕ)). s.now)) c.in-None.is in
    record {
      said = said;
      is_said = subst T c.range.ensures.value c.in_ok-said.ensures.said;
      by = subst (λ (o : Option (List ℕ)). IsSaidBy o said part.start (record { start = part.start; place = said.place; expected = said.expected; hint = said.hint })) (sym is)
          (record { begins = refl; place = refl; expected = refl; hint = refl });
    }

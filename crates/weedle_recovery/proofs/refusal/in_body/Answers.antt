use Rattle.std.proofs.Common.{◌≡◌, ◌∙◌, ◌++◌, ℕ, List, subst}
use Rattle.std.proofs.lemmas.Str.{IsCharBoundary-start}
use Rattle.std.specs.Prelude.{codes}
use Rattle.weedle_refusal.specs.Refusal.{IsSaidFromIn}
use Rattle.weedle_recovery.proofs.refusal.in_body.Goals as goal

pub refusal_at_in-requires : goal.refusal_at_in-requires
refusal_at_in-requires c = IsCharBoundary-start c.as_str.result.now c.as_str.utf8

pub returns-clause-said : goal.returns-clause-said
returns-clause-said c =
    let T : List ℕ → Type 0 = λ text. IsSaidFromIn c.args.dialect text 0 c.in_ok-said.said in
    let S : List ℕ → Type 0 = λ stretch. IsSaidFromIn c.args.dialect (c.args.front.now ++ (stretch ++ codes "};")) 0 c.in_ok-said.said in
    record {
      said = c.in_ok-said.said;
      is_said = subst S c.range.ensures.value (subst T (c.as_str.ensures.value ∙ c.in_ok-text.ensures) c.in_ok-said.ensures.said);
      moved = c.moved.ensures.is;
    }

use Rattle.std.proofs.Common.{◌≡◌, refl, length, sym, subst, ◌∙◌, ap}
use Rattle.weedle_syntax.specs.Dialects.{IsWholeIn, IsSyntaxIn}
use Rattle.weedle_syntax.specs.Syntax.{rest_of}
use Rattle.weedle_syntax.proofs.DialectFacts.{front_is_whole, front_is_syntax, front_ends_before}
use Rattle.weedle_syntax.proofs.tree.Syntax.new_in.Goals as goal

pub returns-then-rest-text-clause-whole : goal.returns-then-rest-text-clause-whole
returns-then-rest-text-clause-whole c =
    let s = c.in_ok-front.front in
    let all : rest_of s.nodes ≡ length s.text = sym c.rest.ensures.value ∙ c.if-rest-text.true ∙ sym (ap length c.in_ok-front.ensures.text) in
    (λ h. subst (IsWholeIn c.args.dialect) c.in_ok-front.ensures.text (front_is_whole c.args.dialect s.text s.nodes c.in_ok-front.ensures.are all), λ w. refl)

pub returns-then-rest-text-clause-are : goal.returns-then-rest-text-clause-are
returns-then-rest-text-clause-are c =
    let s = c.in_ok-front.front in
    let all : rest_of s.nodes ≡ length s.text = sym c.rest.ensures.value ∙ c.if-rest-text.true ∙ sym (ap length c.in_ok-front.ensures.text) in
    front_is_syntax c.args.dialect s.text s.nodes c.in_ok-front.ensures.are all

pub returns-then-rest-text-clause-same : goal.returns-then-rest-text-clause-same
returns-then-rest-text-clause-same c =
    let s = c.in_ok-front.front in
    let all : rest_of s.nodes ≡ length s.text = sym c.rest.ensures.value ∙ c.if-rest-text.true ∙ sym (ap length c.in_ok-front.ensures.text) in
    subst (λ d. IsSyntaxIn d s.text s.nodes) (sym c.in_ok-front.ensures.dialect) (front_is_syntax c.args.dialect s.text s.nodes c.in_ok-front.ensures.are all)

pub returns-clause-whole : goal.returns-clause-whole
returns-clause-whole c =
    let s = c.in_ok-front.front in (
      λ h. absurd (let n : ⊥ = cc in n),
      λ w. front_ends_before c.args.dialect s.text s.nodes c.in_ok-front.ensures.are
          (λ e. c.if-rest-text.false (c.rest.ensures.value ∙ e ∙ ap length c.in_ok-front.ensures.text)) (subst (IsWholeIn c.args.dialect) (sym c.in_ok-front.ensures.text) w),
    )

use Rattle.std.proofs.Common.{◌≡◌, refl, length, sym, subst, ◌∙◌, ap}
use Rattle.weedle_syntax.specs.declared.dialect.Dialect.TheVariants.{Weedle2}
use Rattle.weedle_syntax.specs.Dialects.{IsSyntaxIn}
use Rattle.weedle_syntax.specs.Syntax.{IsWhole, rest_of}
use Rattle.weedle_syntax.proofs.DialectFacts.{front_is_whole, front_is_syntax, front_ends_before}
use Rattle.weedle_syntax.proofs.tree.Syntax.new.Goals as goal

pub returns-then-rest-text-clause-whole : goal.returns-then-rest-text-clause-whole
returns-then-rest-text-clause-whole c =
    let s = c.in_ok-syntax.syntax in
    let all : rest_of s.nodes ≡ length s.text = sym c.rest.ensures.value ∙ c.if-rest-text.true ∙ sym (ap length c.in_ok-syntax.ensures.text) in
    (λ h. subst IsWhole c.in_ok-syntax.ensures.text (front_is_whole Weedle2 s.text s.nodes c.in_ok-syntax.ensures.are all), λ w. refl)

pub returns-then-rest-text-clause-are : goal.returns-then-rest-text-clause-are
returns-then-rest-text-clause-are c =
    let s = c.in_ok-syntax.syntax in
    let all : rest_of s.nodes ≡ length s.text = sym c.rest.ensures.value ∙ c.if-rest-text.true ∙ sym (ap length c.in_ok-syntax.ensures.text) in
    front_is_syntax Weedle2 s.text s.nodes c.in_ok-syntax.ensures.are all

pub returns-then-rest-text-clause-same : goal.returns-then-rest-text-clause-same
returns-then-rest-text-clause-same c =
    let s = c.in_ok-syntax.syntax in
    let all : rest_of s.nodes ≡ length s.text = sym c.rest.ensures.value ∙ c.if-rest-text.true ∙ sym (ap length c.in_ok-syntax.ensures.text) in
    subst (λ d. IsSyntaxIn d s.text s.nodes) (sym c.in_ok-syntax.ensures.dialect) (front_is_syntax Weedle2 s.text s.nodes c.in_ok-syntax.ensures.are all)

pub returns-clause-whole : goal.returns-clause-whole
returns-clause-whole c =
    let s = c.in_ok-syntax.syntax in (
      λ h. absurd (let n : ⊥ = cc in n),
      λ w. front_ends_before Weedle2 s.text s.nodes c.in_ok-syntax.ensures.are
          (λ e. c.if-rest-text.false (c.rest.ensures.value ∙ e ∙ ap length c.in_ok-syntax.ensures.text)) (subst IsWhole (sym c.in_ok-syntax.ensures.text) w),
    )

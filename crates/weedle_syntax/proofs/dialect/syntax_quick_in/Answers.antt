use Rattle.std.proofs.Common.{◌≡◌, refl, length, sym, ◌∙◌, ap, subst}
use Rattle.weedle_rules.specs.Outcomes.{FailsAt}
use Rattle.weedle_rules.proofs.OutcomeFacts.{not_both}
use Rattle.weedle_syntax.specs.Dialects.{start_of}
use Rattle.weedle_syntax.specs.Syntax.{IsRuleFront, rest_of}
use Rattle.weedle_syntax.proofs.DialectFacts.{front_is_whole, front_is_syntax, front_is_lossless, front_is_read, front_ends_before}
use Rattle.weedle_syntax.proofs.dialect.syntax_quick_in.Goals as goal

pub returns-then-end-raw-clause-whole : goal.returns-then-end-raw-clause-whole
returns-then-end-raw-clause-whole c =
    let front : IsRuleFront c.args.raw.now (start_of c.args.dialect) c.in-Some.nodes.items = subst (λ r. IsRuleFront c.args.raw.now r c.in-Some.nodes.items) c.start.ensures (rw c.in-Some.is at c.in_ok-nodes.ensures.are) in
    let all : rest_of c.in-Some.nodes.items ≡ length c.args.raw.now = ap rest_of (sym c.deref.ensures.value) ∙ sym c.first_end-end.ensures ∙ c.if-end-raw.true in
    (λ h. front_is_whole c.args.dialect c.args.raw.now c.in-Some.nodes.items front all, λ w. refl)

pub returns-then-end-raw-clause-are : goal.returns-then-end-raw-clause-are
returns-then-end-raw-clause-are c =
    let front : IsRuleFront c.args.raw.now (start_of c.args.dialect) c.in-Some.nodes.items = subst (λ r. IsRuleFront c.args.raw.now r c.in-Some.nodes.items) c.start.ensures (rw c.in-Some.is at c.in_ok-nodes.ensures.are) in
    let all : rest_of c.in-Some.nodes.items ≡ length c.args.raw.now = ap rest_of (sym c.deref.ensures.value) ∙ sym c.first_end-end.ensures ∙ c.if-end-raw.true in
    front_is_syntax c.args.dialect c.args.raw.now c.in-Some.nodes.items front all

pub returns-then-end-raw-clause-lossless : goal.returns-then-end-raw-clause-lossless
returns-then-end-raw-clause-lossless c =
    let front : IsRuleFront c.args.raw.now (start_of c.args.dialect) c.in-Some.nodes.items = subst (λ r. IsRuleFront c.args.raw.now r c.in-Some.nodes.items) c.start.ensures (rw c.in-Some.is at c.in_ok-nodes.ensures.are) in
    let all : rest_of c.in-Some.nodes.items ≡ length c.args.raw.now = ap rest_of (sym c.deref.ensures.value) ∙ sym c.first_end-end.ensures ∙ c.if-end-raw.true in
    front_is_lossless c.args.dialect c.args.raw.now c.in-Some.nodes.items front all

pub returns-then-end-raw-clause-read : goal.returns-then-end-raw-clause-read
returns-then-end-raw-clause-read c =
    let front : IsRuleFront c.args.raw.now (start_of c.args.dialect) c.in-Some.nodes.items = subst (λ r. IsRuleFront c.args.raw.now r c.in-Some.nodes.items) c.start.ensures (rw c.in-Some.is at c.in_ok-nodes.ensures.are) in
    let all : rest_of c.in-Some.nodes.items ≡ length c.args.raw.now = ap rest_of (sym c.deref.ensures.value) ∙ sym c.first_end-end.ensures ∙ c.if-end-raw.true in
    front_is_read c.args.dialect c.args.raw.now c.in-Some.nodes.items front all c.utf8.raw

pub returns-else-end-raw-clause-whole : goal.returns-else-end-raw-clause-whole
returns-else-end-raw-clause-whole c =
    let front : IsRuleFront c.args.raw.now (start_of c.args.dialect) c.in-Some.nodes.items = subst (λ r. IsRuleFront c.args.raw.now r c.in-Some.nodes.items) c.start.ensures (rw c.in-Some.is at c.in_ok-nodes.ensures.are) in (
      λ h. absurd (let n : ⊥ = cc in n),
      λ w. front_ends_before c.args.dialect c.args.raw.now c.in-Some.nodes.items front (λ e. c.if-end-raw.false (c.first_end-end.ensures ∙ ap rest_of c.deref.ensures.value ∙ e)) w,
    )

pub returns-in-None-clause-whole : goal.returns-in-None-clause-whole
returns-in-None-clause-whole c =
    let fails : FailsAt c.args.raw.now (start_of c.args.dialect) 0 = subst (λ r. FailsAt c.args.raw.now r 0) c.start.ensures (rw c.in-None.is at c.in_ok-nodes.ensures.fails) in
    (λ h. absurd (let n : ⊥ = cc in n), λ w. absurd (not_both fails w))

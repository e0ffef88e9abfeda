use Rattle.std.proofs.Common.{◌≡◌, ◌≤◌, ◌∙◌, ap, length, subst, sym}
use Rattle.weedle_refusal.proofs.FrontFacts.{never_fails, rule_begins, rule_within}
use Rattle.weedle_refusal.specs.Refusal.{RestBeginsIn}
use Rattle.weedle_rules.specs.Outcomes.{FailsAt}
use Rattle.weedle_syntax.specs.Dialects.{start_of}
use Rattle.weedle_syntax.specs.Syntax.{IsRuleFront, rest_of}
use Rattle.weedle_refusal.proofs.refusal.left_by.Goals as goal

pub nodes_of-requires : goal.nodes_of-requires
nodes_of-requires c = λ fails. never_fails c.args.dialect c.args.raw.now 0 (subst (λ r. FailsAt c.args.raw.now r 0) c.start.ensures fails)

pub returns-clause-rest : goal.returns-clause-rest
returns-clause-rest c =
    let raw = c.args.raw.now in
    let nodes = c.in_ok-nodes.nodes.items in
    let front : IsRuleFront raw (start_of c.args.dialect) nodes = subst (λ r. IsRuleFront raw r nodes) c.start.ensures c.in_ok-nodes.ensures in
    let end : c.first_end-end.result ≡ rest_of nodes = c.first_end-end.ensures ∙ ap rest_of c.deref.ensures.value in
    subst (RestBeginsIn c.args.dialect raw) (sym end) (rule_begins front)

pub returns-clause-within : goal.returns-clause-within
returns-clause-within c =
    let raw = c.args.raw.now in
    let nodes = c.in_ok-nodes.nodes.items in
    let front : IsRuleFront raw (start_of c.args.dialect) nodes = subst (λ r. IsRuleFront raw r nodes) c.start.ensures c.in_ok-nodes.ensures in
    let end : c.first_end-end.result ≡ rest_of nodes = c.first_end-end.ensures ∙ ap rest_of c.deref.ensures.value in
    subst (λ e. e ≤ length raw) (sym end) (rule_within front)

use Rattle.std.proofs.Common.{sym, subst, ◌∙◌, ap, length}
use Rattle.std.specs.Prelude.{IsUtf8}
use Rattle.weedle_rules.proofs.OutcomeFacts.{it_ends, it_fails, not_both}
use Rattle.weedle_syntax.specs.Syntax.{RestBegins, IsSyntaxTo}
use Rattle.weedle_syntax.proofs.FrontFacts.{whole_joins, whole_read, not_whole}
use Rattle.weedle_syntax.proofs.MemoFacts.{ends_over, trees_over}
use Rattle.weedle_syntax.proofs.readers.syntax_of.Goals as goal

pub laid_from-requires-clause-reads : goal.laid_from-requires-clause-reads
laid_from-requires-clause-reads c = ends_over c.of_ends.ensures (it_ends c.in-Some.ensures.right)

pub returns-then-end-text-clause-lossless : goal.returns-then-end-text-clause-lossless
returns-then-end-text-clause-lossless c =
    let nodes = c.in_ok-nodes-in-Some.nodes.items in
    let end = c.if-end-text.true ∙ ap length c.text.ensures in
    whole_joins c.args.ends.now.text nodes (subst (λ e. IsSyntaxTo c.args.ends.now.text e nodes) end (trees_over c.of_ends.ensures c.in_ok-nodes-in-Some.ensures))

pub returns-then-end-text-clause-read : goal.returns-then-end-text-clause-read
returns-then-end-text-clause-read c =
    let nodes = c.in_ok-nodes-in-Some.nodes.items in
    let end = c.if-end-text.true ∙ ap length c.text.ensures in
    whole_read c.args.ends.now.text nodes (subst IsUtf8 c.text.ensures c.text.utf8)
    (subst (RestBegins c.args.ends.now.text) end (it_ends c.in-Some.ensures.right))
    (subst (λ e. IsSyntaxTo c.args.ends.now.text e nodes) end (trees_over c.of_ends.ensures c.in_ok-nodes-in-Some.ensures))

pub returns-else-end-text-clause-whole : goal.returns-else-end-text-clause-whole
returns-else-end-text-clause-whole c = (
  λ h. absurd (let n : ⊥ = cc in n),
  λ w. not_whole c.args.ends.now.text c.in-Some.end (it_ends c.in-Some.ensures.right) (λ e. c.if-end-text.false (e ∙ sym (ap length c.text.ensures))) w,
)

pub returns-in-None-clause-whole : goal.returns-in-None-clause-whole
returns-in-None-clause-whole c = (λ h. absurd (let n : ⊥ = cc in n), λ w. absurd (not_both (it_fails c.in-None.ensures.right) w))

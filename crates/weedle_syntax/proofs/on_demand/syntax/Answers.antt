use Rattle.std.proofs.Common.{subst}
use Rattle.weedle_rules.proofs.OutcomeFacts.{it_ends, it_fails, not_both}
use Rattle.weedle_syntax.specs.Syntax.{RestBegins, IsSyntaxTo}
use Rattle.weedle_syntax.proofs.FrontFacts.{whole_joins, whole_read, not_whole}
use Rattle.weedle_syntax.proofs.MemoFacts.{memo_end, ends_over, trees_over}
use Rattle.weedle_syntax.proofs.on_demand.syntax.Goals as goal

pub laid_from-requires-clause-reads : goal.laid_from-requires-clause-reads
laid_from-requires-clause-reads c = ends_over c.of_memo-table.ensures (it_ends (memo_end c.in_ok-memo.ensures.text c.in_ok-memo.ensures.start c.in-Some.ensures))

pub returns-then-end-raw-clause-lossless : goal.returns-then-end-raw-clause-lossless
returns-then-end-raw-clause-lossless c =
    let nodes = c.in_ok-nodes-in-Some.nodes.items in
    let trees : IsSyntaxTo c.args.raw.now c.in-Some.end nodes = trees_over c.of_memo-table.ensures c.in_ok-nodes-in-Some.ensures in
    whole_joins c.args.raw.now nodes (subst (λ e. IsSyntaxTo c.args.raw.now e nodes) c.if-end-raw.true trees)

pub returns-then-end-raw-clause-read : goal.returns-then-end-raw-clause-read
returns-then-end-raw-clause-read c =
    let nodes = c.in_ok-nodes-in-Some.nodes.items in
    let trees : IsSyntaxTo c.args.raw.now c.in-Some.end nodes = trees_over c.of_memo-table.ensures c.in_ok-nodes-in-Some.ensures in
    let ends : RestBegins c.args.raw.now c.in-Some.end = it_ends (memo_end c.in_ok-memo.ensures.text c.in_ok-memo.ensures.start c.in-Some.ensures) in
    whole_read c.args.raw.now nodes c.utf8.raw (subst (RestBegins c.args.raw.now) c.if-end-raw.true ends) (subst (λ e. IsSyntaxTo c.args.raw.now e nodes) c.if-end-raw.true trees)

pub returns-in-Some-clause-whole : goal.returns-in-Some-clause-whole
returns-in-Some-clause-whole c =
    let ends : RestBegins c.args.raw.now c.in-Some.end = it_ends (memo_end c.in_ok-memo.ensures.text c.in_ok-memo.ensures.start c.in-Some.ensures) in (
      λ h. absurd (let n : ⊥ = cc in n),
      λ w. not_whole c.args.raw.now c.in-Some.end ends c.if-end-raw.false w,
    )

pub returns-clause-whole : goal.returns-clause-whole
returns-clause-whole c = (
  λ h. absurd (let n : ⊥ = cc in n),
  λ w. absurd (not_both (it_fails (memo_end c.in_ok-memo.ensures.text c.in_ok-memo.ensures.start c.in-None.ensures)) w),
)

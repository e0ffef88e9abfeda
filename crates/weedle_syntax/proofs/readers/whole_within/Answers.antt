use Rattle.std.proofs.Common.{subst, sym, ◌∙◌}
use Rattle.weedle_syntax.specs.Syntax.{RestBegins, IsSyntaxTo}
use Rattle.weedle_syntax.proofs.FrontFacts.{whole_joins, whole_read, not_whole}
use Rattle.weedle_syntax.proofs.readers.whole_within.Goals as goal

pub returns-then-end-raw-clause-lossless : goal.returns-then-end-raw-clause-lossless
returns-then-end-raw-clause-lossless c =
    let nodes = c.in_ok-nodes.nodes.items in
    whole_joins c.args.raw.now nodes (subst (λ e. IsSyntaxTo c.args.raw.now e nodes) c.if-end-raw.true (subst (IsSyntaxTo c.args.raw.now c.in_ok-end.end) (sym (c.in_ok-nodes.ensures ∙ c.deref.ensures.value)) c.in_ok-end.ensures.are))

pub returns-then-end-raw-clause-read : goal.returns-then-end-raw-clause-read
returns-then-end-raw-clause-read c =
    let nodes = c.in_ok-nodes.nodes.items in
    whole_read c.args.raw.now nodes c.utf8.raw
    (subst (RestBegins c.args.raw.now) c.if-end-raw.true c.in_ok-end.ensures.end)
    (subst (λ e. IsSyntaxTo c.args.raw.now e nodes) c.if-end-raw.true (subst (IsSyntaxTo c.args.raw.now c.in_ok-end.end) (sym (c.in_ok-nodes.ensures ∙ c.deref.ensures.value)) c.in_ok-end.ensures.are))

pub returns-clause-whole : goal.returns-clause-whole
returns-clause-whole c = (
  λ h. absurd (let n : ⊥ = cc in n),
  λ w. not_whole c.args.raw.now c.in_ok-end.end c.in_ok-end.ensures.end c.if-end-raw.false w,
)

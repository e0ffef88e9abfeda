use Rattle.std.proofs.Common.{inl, inr, refl}
use Rattle.weedle_grammar.specs.View.{numbers_of}
use Rattle.weedle_rules.proofs.ListFrom.{next_part, no_part}
use Rattle.weedle_rules.proofs.OutcomeFacts.{it_fails}
use Rattle.weedle_syntax.proofs.LayFacts.{by_its_row, set_out_choice, one_fits, one_fails, all_fail}
use Rattle.weedle_syntax.proofs.WantedFacts.{wanted_by}
use Rattle.weedle_syntax.proofs.walk.parts.by_choice.Goals as goal

pub loop-i-init : goal.loop-i-init
loop-i-init c = (
  set_out_choice c.args.table.now.text (numbers_of c.args.choices) c.args.depth c.args.node.start c.args.node.end c.args.node.rule _ c.requires.row c.requires.reads c.requires.empty,
  (λ x q t. wanted_by c.requires.wanted c.requires.reads c.requires.row t),
)

pub end-requires-clause-wanted : goal.end-requires-clause-wanted
end-requires-clause-wanted c =
    let g = rw (next_part (numbers_of c.args.choices) c.len-i-end.ensures c.loop-i-test.true c.rule-rule.ensures.value) at c.loop-i.invariant in
    g.1 c.rule-rule.result c.args.node.start (inl (refl, refl))

pub returns-in-Some : goal.returns-in-Some
returns-in-Some c =
    let g = rw (next_part (numbers_of c.args.choices) c.len-i-end.ensures c.loop-i-test.true c.rule-rule.ensures.value) at c.loop-i.invariant in
    by_its_row c.args.table.now.text c.args.node.rule c.args.depth c.args.node.start c.args.node.end _ c.requires.row (one_fits c.args.table.now.text (numbers_of c.args.choices) c.args.depth c.args.node.start c.args.node.end _ _ _ _ _ c.in_ok-push-in-Some.ensures.items g.0 c.in-Some.ensures.right)

pub loop-i-preserved : goal.loop-i-preserved
loop-i-preserved c =
    let g = rw (next_part (numbers_of c.args.choices) c.len-i-end.ensures c.loop-i-test.true c.rule-rule.ensures.value) at c.loop-i.invariant in (
      one_fails c.args.table.now.text (numbers_of c.args.choices) c.args.depth c.args.node.start c.args.node.end _ _ _ g.0 c.in-None.ensures.right,
      (λ x q t. g.1 x q (inr (it_fails c.in-None.ensures.right, t))),
    )

pub returns : goal.returns
returns c =
    let g = rw (no_part (numbers_of c.args.choices) c.len-i-end.ensures c.loop-i-test.false) at c.loop-i.invariant in
    all_fail c.args.table.now.text (numbers_of c.args.choices) c.args.depth c.args.node.start c.args.node.end _ g.0

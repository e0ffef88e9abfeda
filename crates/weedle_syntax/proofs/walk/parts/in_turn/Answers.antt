use Rattle.std.proofs.Common.{inl, inr, refl}
use Rattle.weedle_grammar.specs.View.{numbers_of}
use Rattle.weedle_rules.proofs.ListFrom.{next_part, no_part}
use Rattle.weedle_rules.proofs.OutcomeFacts.{it_ends}
use Rattle.weedle_syntax.proofs.LayFacts.{set_out, one_part, no_part_fails, finish}
use Rattle.weedle_syntax.proofs.walk.parts.in_turn.Goals as goal

pub loop-i-init : goal.loop-i-init
loop-i-init c = (
  set_out c.args.table.now.text (numbers_of c.args.parts) c.args.depth c.args.place _ c.requires.empty c.requires.reads c.requires.within,
  c.requires.tried,
)

pub end-requires-clause-wanted : goal.end-requires-clause-wanted
end-requires-clause-wanted c =
    let g = rw (next_part (numbers_of c.args.parts) c.len-i-end.ensures c.loop-i-test.true c.rule-rule.ensures.value) at c.loop-i.invariant in
    g.1 c.rule-rule.result c.loop-i.at (inl (refl, refl))

pub returns-in-None : goal.returns-in-None
returns-in-None c =
    let g = rw (next_part (numbers_of c.args.parts) c.len-i-end.ensures c.loop-i-test.true c.rule-rule.ensures.value) at c.loop-i.invariant in
    no_part_fails c.args.table.now.text (numbers_of c.args.parts) c.args.depth c.args.place _ _ _ _ g.0 c.in-None.ensures.right

pub loop-i-preserved : goal.loop-i-preserved
loop-i-preserved c =
    let g = rw (next_part (numbers_of c.args.parts) c.len-i-end.ensures c.loop-i-test.true c.rule-rule.ensures.value) at c.loop-i.invariant in (
      one_part c.args.table.now.text (numbers_of c.args.parts) c.args.depth c.args.place _ _ _ _ _ _ c.in_ok-push-in-Some.ensures.items g.0 c.in-Some.ensures.right,
      (λ x q t. g.1 x q (inr (c.in-Some.end, it_ends c.in-Some.ensures.right, t))),
    )

pub returns : goal.returns
returns c =
    let g = rw (no_part (numbers_of c.args.parts) c.len-i-end.ensures c.loop-i-test.false) at c.loop-i.invariant in
    finish c.args.table.now.text (numbers_of c.args.parts) c.args.depth c.args.place c.loop-i.at _ g.0

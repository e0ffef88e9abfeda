use Rattle.weedle_grammar.specs.View.{numbers_of}
use Rattle.weedle_rules.proofs.ListFrom.{next_part, no_part}
use Rattle.weedle_refusal.proofs.LaterFacts.{still_in, in_text}
use Rattle.weedle_refusal.proofs.AddingFacts.{set_out, choice_on, choice_fits, choice_ends, choice_head}
use Rattle.weedle_refusal.proofs.diagnose.tries.parts.by_choice.Goals as goal

pub loop-i-init : goal.loop-i-init
loop-i-init c = set_out _ _ _

pub mark-requires-clause-here : goal.mark-requires-clause-here
mark-requires-clause-here c =
    let g = rw (next_part (numbers_of c.args.parts) c.len-i-end.ensures c.loop-i-test.true c.rule-part.ensures.value) at c.loop-i.invariant in
    still_in g.many (c.requires.inside _ _ (choice_head c.args.ends.now.text _ _ _ g))

pub cell-requires-clause-within : goal.cell-requires-clause-within
cell-requires-clause-within c =
    let g = rw (next_part (numbers_of c.args.parts) c.len-i-end.ensures c.loop-i-test.true c.rule-part.ensures.value) at c.loop-i.invariant in
    in_text c.args.ends.now.text c.requires.last (c.requires.inside _ _ (choice_head c.args.ends.now.text _ _ _ g))

pub returns-in-Some : goal.returns-in-Some
returns-in-Some c =
    let g = rw (next_part (numbers_of c.args.parts) c.len-i-end.ensures c.loop-i-test.true c.rule-part.ensures.value) at c.loop-i.invariant in
    choice_fits c.args.ends.now.text _ g c.mark.ensures c.in-Some.ensures.right

pub loop-i-preserved : goal.loop-i-preserved
loop-i-preserved c =
    let g = rw (next_part (numbers_of c.args.parts) c.len-i-end.ensures c.loop-i-test.true c.rule-part.ensures.value) at c.loop-i.invariant in
    choice_on c.args.ends.now.text _ g c.mark.ensures c.in-None.ensures.right

pub returns : goal.returns
returns c =
    let g = rw (no_part (numbers_of c.args.parts) c.len-i-end.ensures c.loop-i-test.false) at c.loop-i.invariant in
    choice_ends c.args.ends.now.text c.args.place g

pub cell-requires-clause-low : goal.cell-requires-clause-low
cell-requires-clause-low c =
    let g = rw (next_part (numbers_of c.args.parts) c.len-i-end.ensures c.loop-i-test.true c.rule-part.ensures.value) at c.loop-i.invariant in
    (c.requires.inside _ _ (choice_head c.args.ends.now.text _ _ _ g)).low

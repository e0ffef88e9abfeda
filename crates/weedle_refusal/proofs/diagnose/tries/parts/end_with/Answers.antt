use Rattle.std.proofs.Common.{get_or, subst, arith, ap, ◌≡◌, ◌∙◌, ◌-◌, false}
use Rattle.weedle_grammar.specs.written.Table.{webidl}
use Rattle.weedle_grammar.specs.View.{numbers_of}
use Rattle.weedle_grammar.specs.Trees.{Gives}
use Rattle.weedle_grammar.specs.Meaning.{is_present, ReadsBy}
use Rattle.weedle_grammar.proofs.Takes.{takes}
use Rattle.weedle_grammar.proofs.Checked.{ranked}
use Rattle.weedle_rules.proofs.ConditionEnds.{if_start, if_step, if_along_fails, if_along_ends, present, note_more, note_high, note_low, chosen_here, chosen_other}
use Rattle.weedle_rules.proofs.FewReads.{if_switch}
use Rattle.weedle_rules.proofs.ListFrom.{next_part, no_part}
use Rattle.weedle_refusal.proofs.ConditionFacts.{breaks_off, ends_so, gave_none}
use Rattle.weedle_rules.proofs.TableRows.{among_all, part_is, if_part}
use Rattle.weedle_refusal.proofs.diagnose.tries.parts.end_with.Goals as goal

pub loop-i-init : goal.loop-i-init
loop-i-init c =
    let z : c.args.k - 0 ≡ c.args.k = omega arith in
    rw (note_high c.args.k 0 false (omega arith), z) (if_start webidl c.args.ends.now.text takes ranked _ _ _ _ _ c.requires.row c.requires.within)

pub cell-requires-clause-within : goal.cell-requires-clause-within
cell-requires-clause-within c = c.loop-i.invariant.within

pub returns-in-None : goal.returns-in-None
returns-in-None c =
    let a = rw (next_part (numbers_of c.args.parts) c.len-i-end.ensures c.loop-i-test.true c.rule.ensures.value) at c.loop-i.invariant in
    λ q h. breaks_off c.args.ends.now.text _ _ _ q _ (if_along_fails webidl c.args.ends.now.text takes _ _ _ _ _ _ _ _ a c.in-None.ensures.right) h

pub loop-i-preserved : goal.loop-i-preserved
loop-i-preserved c =
    let text = c.args.ends.now.text in
    let a = rw (next_part (numbers_of c.args.parts) c.len-i-end.ensures c.loop-i-test.true c.rule.ensures.value) at c.loop-i.invariant in
    let sw = (if_switch (among_all c.requires.low) c.requires.row).2 in
    if_step webidl text takes ranked _ _ _ _ _ _ _ _ _ _ a c.in-Some.ensures.right (λ ts d. note_more webidl text c.args.k c.loop-i.i c.loop-i.present (is_present ts) c.choose-present.result
    (λ e.
    let at : c.rule.result ≡ get_or (numbers_of c.args.parts) c.args.k 0 = c.rule.ensures.value ∙ ap (λ z. get_or (numbers_of c.args.parts) z 0) e in
    chosen_here c.loop-i.i c.args.k c.in-Some.next c.loop-i.end c.loop-i.present c.choose-present.result (is_present ts) e c.choose-present.ensures
    (present webidl text takes ranked _ sw.x _ _ ts sw.row_is sw.shape_is sw.mark_is sw.takes_it (subst (λ s. ReadsBy webidl text s c.loop-i.end (Gives ts c.in-Some.next)) at d)))
    (λ n. chosen_other c.loop-i.i c.args.k _ c.loop-i.present c.choose-present.result n c.choose-present.ensures))

pub returns-then-present : goal.returns-then-present
returns-then-present c =
    let e = c.loop-i-test.false in
    let q = (if_switch (among_all c.requires.low) c.requires.row).1 in
    let a = rw (no_part (numbers_of c.args.parts) c.len-i-end.ensures c.loop-i-test.false, note_low c.args.k c.loop-i.i c.loop-i.present (omega arith), c.if-present.true) at c.loop-i.invariant in
    ends_so c.args.ends.now.text _ _ _ _ (if_along_ends webidl c.args.ends.now.text takes _ _ _ _ _ _ a)

pub returns-else-present : goal.returns-else-present
returns-else-present c =
    let e = c.loop-i-test.false in
    let q = (if_switch (among_all c.requires.low) c.requires.row).1 in
    let a = rw (no_part (numbers_of c.args.parts) c.len-i-end.ensures c.loop-i-test.false, note_low c.args.k c.loop-i.i c.loop-i.present (omega arith), c.if-present.false) at c.loop-i.invariant in
    λ z h. gave_none c.args.ends.now.text _ _ _ _ z (if_along_ends webidl c.args.ends.now.text takes _ _ _ _ _ _ a) h

pub cell-requires-clause-low : goal.cell-requires-clause-low
cell-requires-clause-low c = part_is (numbers_of c.args.parts) c.loop-i.i c.rule.ensures.value (if_part c.requires.low c.requires.row c.loop-i.i)

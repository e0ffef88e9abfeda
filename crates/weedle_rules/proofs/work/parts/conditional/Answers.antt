use Rattle.std.proofs.Common.{get_or, subst, arith, rules, ap, ◌≡◌, ◌∙◌, ◌-◌, false}
use Rattle.weedle_grammar.specs.written.Table.{webidl}
use Rattle.weedle_grammar.specs.View.{numbers_of}
use Rattle.weedle_grammar.specs.Trees.{Gives}
use Rattle.weedle_grammar.specs.Meaning.{is_present, ReadsBy}
use Rattle.weedle_grammar.proofs.Takes.{takes}
use Rattle.weedle_grammar.proofs.Checked.{ranked}
use Rattle.weedle_rules.proofs.ConditionEnds.{if_start, if_known, if_step, if_along_fails, if_along_ends, if_ends_none, if_ends_absent, if_ends_present, if_next_low, present, note_more, note_high, note_low, chosen_here, chosen_other}
use Rattle.weedle_rules.proofs.FewReads.{if_switch}
use Rattle.weedle_rules.proofs.Looks.{its_count, counted_on, none_yet, on, worked, known_if, known_from}
use Rattle.weedle_rules.proofs.ListFrom.{next_part, no_part}
use Rattle.weedle_rules.proofs.TableRows.{among_all, part_is, if_part, if_last}
use Rattle.weedle_rules.proofs.work.parts.conditional.Goals as goal

pub loop-i-init : goal.loop-i-init
loop-i-init g c =
    let z : c.args.k - 0 ≡ c.args.k = omega arith in
    (none_yet c.requires.begun, rw (note_high c.args.k 0 false (omega arith), z) (if_start webidl c.args.reader.now.text takes ranked _ _ _ _ _ c.requires.row c.requires.begun.within))

pub cell-requires-clause-room : goal.cell-requires-clause-room
cell-requires-clause-room g c =
    let n = its_count c.loop-i.invariant.0 in
    let k = (if_switch (among_all c.requires.begun.low) c.requires.row).0 in
    let i = c.loop-i-test.true in
    let e = c.len-i-end.ensures in
    omega arith

pub cell-requires-clause-known : goal.cell-requires-clause-known
cell-requires-clause-known g c =
    let a = rw (next_part (numbers_of c.args.parts) c.len-i-end.ensures c.loop-i-test.true c.rule.ensures.value) at c.loop-i.invariant.1 in
    known_if c.requires.begun _ _ (if_known webidl c.args.reader.now.text takes ranked _ _ _ _ _ _ _ _ a (part_is (numbers_of c.args.parts) c.loop-i.i c.rule.ensures.value (if_part c.requires.begun.low c.requires.row c.loop-i.i)))

pub returns-in-None : goal.returns-in-None
returns-in-None g c =
    let a = rw (next_part (numbers_of c.args.parts) c.len-i-end.ensures c.loop-i-test.true c.rule.ensures.value) at c.loop-i.invariant.1 in
    let l = c.loop-i.invariant.0 in
    let n = its_count l in
    worked c.requires.begun c.requires.row (on l c.cell.ensures.counted) (omega arith) (if_ends_none webidl c.args.reader.now.text _ _ _ _ (if_along_fails webidl c.args.reader.now.text takes _ _ _ _ _ _ _ _ a c.in-None.ensures.right))

pub loop-i-preserved : goal.loop-i-preserved
loop-i-preserved g c =
    let a = rw (next_part (numbers_of c.args.parts) c.len-i-end.ensures c.loop-i-test.true c.rule.ensures.value) at c.loop-i.invariant.1 in
    let sw = (if_switch (among_all c.requires.begun.low) c.requires.row).2 in (
      counted_on c.loop-i.invariant.0 c.cell.ensures.counted,
      if_step webidl c.args.reader.now.text takes ranked _ _ _ _ _ _ _ _ _ _ a c.in-Some.ensures.right (λ ts d. note_more webidl c.args.reader.now.text c.args.k c.loop-i.i c.loop-i.present (is_present ts) c.choose-present.result
          (λ e.
          let at : c.rule.result ≡ get_or (numbers_of c.args.parts) c.args.k 0 = c.rule.ensures.value ∙ ap (λ z. get_or (numbers_of c.args.parts) z 0) e in
          chosen_here c.loop-i.i c.args.k c.in-Some.next c.loop-i.end c.loop-i.present c.choose-present.result (is_present ts) e c.choose-present.ensures
          (present webidl c.args.reader.now.text takes ranked _ sw.x _ _ ts sw.row_is sw.shape_is sw.mark_is sw.takes_it (subst (λ s. ReadsBy webidl c.args.reader.now.text s c.loop-i.end (Gives ts c.in-Some.next)) at d)))
          (λ n. chosen_other c.loop-i.i c.args.k _ c.loop-i.present c.choose-present.result n c.choose-present.ensures)),
    )

pub cell-requires-then-present-clause-room : goal.cell-requires-then-present-clause-room
cell-requires-then-present-clause-room g c =
    let n = its_count c.loop-i.invariant.0 in
    let k = (if_switch (among_all c.requires.begun.low) c.requires.row).0 in
    let i = c.loop-i.auto.i-end in
    omega arith

pub cell-requires-then-present-clause-known : goal.cell-requires-then-present-clause-known
cell-requires-then-present-clause-known g c =
    let e = c.loop-i-test.false in
    let q = (if_switch (among_all c.requires.begun.low) c.requires.row).1 in
    let a = rw (no_part (numbers_of c.args.parts) c.len-i-end.ensures c.loop-i-test.false, note_low c.args.k c.loop-i.i c.loop-i.present (omega arith), c.if-present.true) at c.loop-i.invariant.1 in
    known_from c.requires.begun a.after a.within (if_last c.requires.begun.low c.requires.row) (if_next_low webidl c.args.reader.now.text takes ranked _ _ _ _ _ _ c.requires.row (if_along_ends webidl c.args.reader.now.text takes _ _ _ _ _ _ a) a.after)

pub returns-then-present : goal.returns-then-present
returns-then-present g c =
    let e = c.loop-i-test.false in
    let q = (if_switch (among_all c.requires.begun.low) c.requires.row).1 in
    let a = rw (no_part (numbers_of c.args.parts) c.len-i-end.ensures c.loop-i-test.false, note_low c.args.k c.loop-i.i c.loop-i.present (omega arith), c.if-present.true) at c.loop-i.invariant.1 in
    worked c.requires.begun c.requires.row (on c.loop-i.invariant.0 c.cell-then-present.ensures.counted) (omega arith) (if_ends_present webidl c.args.reader.now.text _ _ _ _ _ _ (if_along_ends webidl c.args.reader.now.text takes _ _ _ _ _ _ a) c.cell-then-present.ensures.right)

pub returns-else-present : goal.returns-else-present
returns-else-present g c =
    let e = c.loop-i-test.false in
    let q = (if_switch (among_all c.requires.begun.low) c.requires.row).1 in
    let a = rw (no_part (numbers_of c.args.parts) c.len-i-end.ensures c.loop-i-test.false, note_low c.args.k c.loop-i.i c.loop-i.present (omega arith), c.if-present.false) at c.loop-i.invariant.1 in
    worked c.requires.begun c.requires.row c.loop-i.invariant.0 (omega arith) (if_ends_absent webidl c.args.reader.now.text _ _ _ _ _ (if_along_ends webidl c.args.reader.now.text takes _ _ _ _ _ _ a))

pub cell-requires-clause-low : goal.cell-requires-clause-low
cell-requires-clause-low g c = part_is (numbers_of c.args.parts) c.loop-i.i c.rule.ensures.value (if_part c.requires.begun.low c.requires.row c.loop-i.i)

pub cell-requires-then-present-clause-low : goal.cell-requires-then-present-clause-low
cell-requires-then-present-clause-low g c = if_last c.requires.begun.low c.requires.row

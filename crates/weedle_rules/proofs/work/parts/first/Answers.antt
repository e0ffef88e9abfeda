use Rattle.std.proofs.Common.{arith}
use Rattle.weedle_grammar.specs.written.Table.{webidl}
use Rattle.weedle_grammar.specs.View.{numbers_of}
use Rattle.weedle_grammar.proofs.Takes.{takes}
use Rattle.weedle_grammar.proofs.Checked.{ranked}
use Rattle.weedle_rules.proofs.PartEnds.{trying_start, trying_known, first_fits, first_tries_on, first_fits_none}
use Rattle.weedle_rules.proofs.RowEnds.{first_ends}
use Rattle.weedle_rules.proofs.FewReads.{first_few}
use Rattle.weedle_rules.proofs.Looks.{its_count, none_yet, on, worked, known_if, counted_on}
use Rattle.weedle_rules.proofs.ListFrom.{next_part, no_part}
use Rattle.weedle_rules.proofs.TableRows.{among_all, part_is, first_part}
use Rattle.weedle_rules.proofs.work.parts.first.Goals as goal

pub loop-i-init : goal.loop-i-init
loop-i-init g c = (none_yet c.requires.begun, trying_start webidl c.args.reader.now.text takes ranked _ c.args.place _ c.requires.row)

pub cell-requires-clause-opened : goal.cell-requires-clause-opened
cell-requires-clause-opened g c = c.requires.begun.opened

pub cell-requires-clause-room : goal.cell-requires-clause-room
cell-requires-clause-room g c =
    let n = its_count c.loop-i.invariant.0 in
    let k = first_few (among_all c.requires.begun.low) c.requires.row in
    let i = c.loop-i-test.true in
    let e = c.len-i-end.ensures in
    omega arith

pub cell-requires-clause-within : goal.cell-requires-clause-within
cell-requires-clause-within g c = c.requires.begun.within

pub cell-requires-clause-known : goal.cell-requires-clause-known
cell-requires-clause-known g c =
    let a = rw (next_part (numbers_of c.args.parts) c.len-i-end.ensures c.loop-i-test.true c.rule.ensures.value) at c.loop-i.invariant.1 in
    known_if c.requires.begun _ _ (trying_known webidl c.args.reader.now.text takes ranked _ _ _ _ _ _ a)

pub returns-in-Some : goal.returns-in-Some
returns-in-Some g c =
    let a = rw (next_part (numbers_of c.args.parts) c.len-i-end.ensures c.loop-i-test.true c.rule.ensures.value) at c.loop-i.invariant.1 in
    let b = c.requires.begun in
    let l = c.loop-i.invariant.0 in
    let n = its_count l in
    worked b c.requires.row (on l c.cell.ensures.counted) (omega arith) (first_ends webidl c.args.reader.now.text _ _ _ (first_fits webidl c.args.reader.now.text takes _ _ _ _ _ _ _ a c.in-Some.ensures.right))

pub loop-i-preserved : goal.loop-i-preserved
loop-i-preserved g c =
    let a = rw (next_part (numbers_of c.args.parts) c.len-i-end.ensures c.loop-i-test.true c.rule.ensures.value) at c.loop-i.invariant.1 in
    let b = c.requires.begun in
    let l = c.loop-i.invariant.0 in
    (counted_on l c.cell.ensures.counted, first_tries_on webidl c.args.reader.now.text takes _ _ _ _ _ _ a c.in-None.ensures.right)

pub returns : goal.returns
returns g c =
    let a = rw (no_part (numbers_of c.args.parts) c.len-i-end.ensures c.loop-i-test.false) at c.loop-i.invariant.1 in
    let k = first_few (among_all c.requires.begun.low) c.requires.row in
    let i = c.loop-i-test.false in
    let e = c.len-i-end.ensures in
    worked c.requires.begun c.requires.row c.loop-i.invariant.0 (omega arith) (first_ends webidl c.args.reader.now.text _ _ _ (first_fits_none webidl c.args.reader.now.text takes _ _ _ _ a))

pub cell-requires-clause-low : goal.cell-requires-clause-low
cell-requires-clause-low g c = part_is (numbers_of c.args.parts) c.loop-i.i c.rule.ensures.value (first_part c.requires.begun.low c.requires.row c.loop-i.i)

use Rattle.std.proofs.Common.{arith, rules}
use Rattle.weedle_grammar.specs.written.Table.{webidl}
use Rattle.weedle_grammar.proofs.Takes.{takes}
use Rattle.weedle_grammar.proofs.Checked.{ranked}
use Rattle.weedle_rules.proofs.RowEnds.{row_ends, ends_after, ends_inside, tail_ends, tail_fails, tail_gives_back, tail_goes}
use Rattle.weedle_rules.proofs.PartEnds.{tail_low}
use Rattle.weedle_rules.proofs.Looks.{known_after, looked, on, worked, known_here, known_behind, end_inside}
use Rattle.weedle_rules.proofs.TableRows.{tail_part, tail_mark}
use Rattle.weedle_rules.proofs.work.items.tail.Goals as goal

pub cell-requires-clause-known : goal.cell-requires-clause-known
cell-requires-clause-known g c = known_here c.requires.begun (tail_mark c.requires.begun.low c.requires.row) (tail_low webidl c.args.reader.now.text takes ranked _ _ _ c.requires.row)

pub cell-requires-else-behind-place-clause-within : goal.cell-requires-else-behind-place-clause-within
cell-requires-else-behind-place-clause-within g c = end_inside c.requires.begun c.in-Some.ensures.right

pub cell-requires-else-behind-place-clause-known : goal.cell-requires-else-behind-place-clause-known
cell-requires-else-behind-place-clause-known g c = known_behind c.requires.begun c.in-Some.ensures.right c.if-behind-place.false (tail_part c.requires.begun.low c.requires.row)

pub cell-requires-in-Some-cell-clause-within : goal.cell-requires-in-Some-cell-clause-within
cell-requires-in-Some-cell-clause-within g c =
    let b = c.requires.begun in
    let i = ends_inside webidl c.args.reader.now.text _ _ _ c.in-Some.ensures.right b.within in
    (ends_inside webidl c.args.reader.now.text _ _ _ c.in-Some-cell.ensures.right i)

pub cell-requires-in-Some-cell-clause-known : goal.cell-requires-in-Some-cell-clause-known
cell-requires-in-Some-cell-clause-known g c =
    let b = c.requires.begun in
    let i = ends_inside webidl c.args.reader.now.text _ _ _ c.in-Some.ensures.right b.within in
    let a = ends_after webidl c.args.reader.now.text _ _ _ c.in-Some.ensures.right in
    let n = c.if-behind-place.false in
    let h = c.in-Some-cell.ensures.right in
    let d = ends_after webidl c.args.reader.now.text _ _ _ h in
    known_after b (omega arith) (ends_inside webidl c.args.reader.now.text _ _ _ h i) b.low

pub returns-in-None : goal.returns-in-None
returns-in-None g c = worked c.requires.begun c.requires.row (looked _ c.cell.ensures.counted) (omega arith) (tail_ends webidl c.args.reader.now.text _ _ _ c.in-None.ensures.right)

pub returns-then-behind-place : goal.returns-then-behind-place
returns-then-behind-place g c = worked c.requires.begun c.requires.row (looked _ c.cell.ensures.counted) (omega arith) (tail_fails webidl c.args.reader.now.text _ _ _ (rw c.if-behind-place.true at c.in-Some.ensures.right))

pub returns-in-None-cell : goal.returns-in-None-cell
returns-in-None-cell g c =
    let b = c.requires.begun in
    let l = looked _ c.cell.ensures.counted in
    worked b c.requires.row (on l c.cell-else-behind-place.ensures.counted) (omega arith) (tail_gives_back webidl c.args.reader.now.text _ _ _ _ c.in-Some.ensures.right c.if-behind-place.false c.in-None-cell.ensures.right)

pub returns-in-Some-cell : goal.returns-in-Some-cell
returns-in-Some-cell g c =
    let b = c.requires.begun in
    let l = looked _ c.cell.ensures.counted in
    let m = on l c.cell-else-behind-place.ensures.counted in
    worked b c.requires.row (on m c.cell-in-Some-cell.ensures.counted) (omega arith) (tail_goes webidl c.args.reader.now.text _ _ _ _ _ _ c.in-Some.ensures.right c.if-behind-place.false c.in-Some-cell.ensures.right (row_ends c.requires.row c.cell-in-Some-cell.ensures.right))

pub cell-requires-clause-low : goal.cell-requires-clause-low
cell-requires-clause-low g c = tail_mark c.requires.begun.low c.requires.row

pub cell-requires-else-behind-place-clause-low : goal.cell-requires-else-behind-place-clause-low
cell-requires-else-behind-place-clause-low g c = tail_part c.requires.begun.low c.requires.row

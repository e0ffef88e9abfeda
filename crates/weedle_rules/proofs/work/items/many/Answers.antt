use Rattle.std.proofs.Common.{arith, rules}
use Rattle.weedle_grammar.specs.written.Table.{webidl}
use Rattle.weedle_grammar.proofs.Takes.{takes}
use Rattle.weedle_grammar.proofs.Checked.{ranked}
use Rattle.weedle_rules.proofs.RowEnds.{row_ends, many_ends, many_fails, many_goes}
use Rattle.weedle_rules.proofs.PartEnds.{many_low}
use Rattle.weedle_rules.proofs.Looks.{looked, on, worked, known_here, known_behind, end_inside}
use Rattle.weedle_rules.proofs.TableRows.{many_part}
use Rattle.weedle_rules.proofs.work.items.many.Goals as goal

pub cell-requires-clause-known : goal.cell-requires-clause-known
cell-requires-clause-known g c = known_here c.requires.begun (many_part c.requires.begun.low c.requires.row) (many_low webidl c.args.reader.now.text takes ranked _ _ c.requires.row)

pub cell-requires-else-end-place-clause-within : goal.cell-requires-else-end-place-clause-within
cell-requires-else-end-place-clause-within g c = end_inside c.requires.begun c.in-Some.ensures.right

pub cell-requires-else-end-place-clause-known : goal.cell-requires-else-end-place-clause-known
cell-requires-else-end-place-clause-known g c = known_behind c.requires.begun c.in-Some.ensures.right c.if-end-place.false c.requires.begun.low

pub returns-in-None : goal.returns-in-None
returns-in-None g c = worked c.requires.begun c.requires.row (looked _ c.cell.ensures.counted) (omega arith) (many_ends webidl c.args.reader.now.text _ _ c.in-None.ensures.right)

pub returns-then-end-place : goal.returns-then-end-place
returns-then-end-place g c = worked c.requires.begun c.requires.row (looked _ c.cell.ensures.counted) (omega arith) (many_fails webidl c.args.reader.now.text _ _ (rw c.if-end-place.true at c.in-Some.ensures.right))

pub returns-else-end-place : goal.returns-else-end-place
returns-else-end-place g c =
    let l = looked _ c.cell.ensures.counted in
    worked c.requires.begun c.requires.row (on l c.cell-else-end-place.ensures.counted) (omega arith) (many_goes webidl c.args.reader.now.text _ _ _ _ c.in-Some.ensures.right c.if-end-place.false (row_ends c.requires.row c.cell-else-end-place.ensures.right))

pub cell-requires-clause-low : goal.cell-requires-clause-low
cell-requires-clause-low g c = many_part c.requires.begun.low c.requires.row

pub cell-requires-else-end-place-clause-low : goal.cell-requires-else-end-place-clause-low
cell-requires-else-end-place-clause-low g c = c.requires.begun.low

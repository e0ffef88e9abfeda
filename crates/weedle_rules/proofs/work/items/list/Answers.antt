use Rattle.std.proofs.Common.{arith, rules}
use Rattle.weedle_grammar.specs.written.Table.{webidl}
use Rattle.weedle_grammar.proofs.Takes.{takes}
use Rattle.weedle_grammar.proofs.Checked.{ranked}
use Rattle.weedle_rules.proofs.RowEnds.{ends_after, ends_inside, list_ends, list_goes}
use Rattle.weedle_rules.proofs.PartEnds.{list_low, list_next_low}
use Rattle.weedle_rules.proofs.Looks.{looked, on, worked, known_from, known_here, end_inside}
use Rattle.weedle_rules.proofs.TableRows.{list_part, list_tail}
use Rattle.weedle_rules.proofs.work.items.list.Goals as goal

pub cell-requires-clause-known : goal.cell-requires-clause-known
cell-requires-clause-known g c = known_here c.requires.begun (list_part c.requires.begun.low c.requires.row) (list_low webidl c.args.reader.now.text takes ranked _ _ _ c.requires.row)

pub cell-requires-in-Some-clause-within : goal.cell-requires-in-Some-clause-within
cell-requires-in-Some-clause-within g c = end_inside c.requires.begun c.in-Some.ensures.right

pub cell-requires-in-Some-clause-known : goal.cell-requires-in-Some-clause-known
cell-requires-in-Some-clause-known g c =
    let h = c.in-Some.ensures.right in
    known_from c.requires.begun (ends_after webidl c.args.reader.now.text _ _ _ h) (ends_inside webidl c.args.reader.now.text _ _ _ h c.requires.begun.within) (list_tail c.requires.begun.low c.requires.row) (list_next_low webidl c.args.reader.now.text takes ranked _ _ _ _ _ c.requires.row h)

pub returns-in-None : goal.returns-in-None
returns-in-None g c = worked c.requires.begun c.requires.row (looked _ c.cell.ensures.counted) (omega arith) (list_ends webidl c.args.reader.now.text _ _ _ c.in-None.ensures.right)

pub returns-in-Some : goal.returns-in-Some
returns-in-Some g c =
    let l = looked _ c.cell.ensures.counted in
    worked c.requires.begun c.requires.row (on l c.cell-in-Some.ensures.counted) (omega arith) (list_goes webidl c.args.reader.now.text _ _ _ _ _ c.in-Some.ensures.right c.cell-in-Some.ensures.right)

pub cell-requires-clause-low : goal.cell-requires-clause-low
cell-requires-clause-low g c = list_part c.requires.begun.low c.requires.row

pub cell-requires-in-Some-clause-low : goal.cell-requires-in-Some-clause-low
cell-requires-in-Some-clause-low g c = list_tail c.requires.begun.low c.requires.row

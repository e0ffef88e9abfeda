use Rattle.std.proofs.Common.{arith}
use Rattle.weedle_rules.proofs.RowEnds.{row_ends}
use Rattle.weedle_rules.proofs.FewReads.{past_few}
use Rattle.weedle_rules.proofs.TableRows.{among_all}
use Rattle.weedle_rules.proofs.Looks.{looked, on, worked}
use Rattle.weedle_rules.proofs.ByteEnds.{stand_within, past_here, past_on, past_none}
use Rattle.weedle_rules.proofs.work.plain.past.Goals as goal

pub stand_at-requires-clause-some : goal.stand_at-requires-clause-some
stand_at-requires-clause-some g c = (past_few (among_all c.requires.begun.low) c.requires.row).0

pub stand_at-requires-clause-few : goal.stand_at-requires-clause-few
stand_at-requires-clause-few g c = (past_few (among_all c.requires.begun.low) c.requires.row).1

pub overflow_add-result : goal.overflow_add-result
overflow_add-result g c =
    let h = stand_within c.args.bytes.now c.args.reader.now.text c.args.place c.requires.begun.within c.if-stand_at.ensures.value in
    let n = c.requires.begun.fits in
    record { fits = omega arith }

pub returns-then-stand_at : goal.returns-then-stand_at
returns-then-stand_at g c = worked c.requires.begun c.requires.row (looked _ c.stand_at.ensures.same) c.stand_at.ensures.looked (past_here c.args.reader.now.text _ _ c.if-stand_at.ensures.value)

pub cell-requires-clause-room : goal.cell-requires-clause-room
cell-requires-clause-room g c = let k = (past_few (among_all c.requires.begun.low) c.requires.row).1 in let n = c.stand_at.ensures.few in omega arith

pub returns-then-place-text_len : goal.returns-then-place-text_len
returns-then-place-text_len g c =
    let b = c.requires.begun in
    let l = looked _ c.stand_at.ensures.same in
    let n = c.text_len.ensures in
    let h = c.if-place-text_len.true in
    worked b c.requires.row (on l c.cell.ensures.counted) (omega arith) (past_on c.args.reader.now.text _ _ _ c.if-stand_at.ensures.value (omega arith) (row_ends c.requires.row c.cell.ensures.right))

pub returns-else-place-text_len : goal.returns-else-place-text_len
returns-else-place-text_len g c =
    let l = looked _ c.stand_at.ensures.same in
    let n = c.text_len.ensures in
    let h = c.if-place-text_len.false in
    worked c.requires.begun c.requires.row l c.stand_at.ensures.looked (past_none c.args.reader.now.text _ _ c.if-stand_at.ensures.value (omega arith))

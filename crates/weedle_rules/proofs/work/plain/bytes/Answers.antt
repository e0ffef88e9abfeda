use Rattle.std.proofs.Common.{arith}
use Rattle.weedle_rules.proofs.FewReads.{bytes_few}
use Rattle.weedle_rules.proofs.TableRows.{among_all}
use Rattle.weedle_rules.proofs.Looks.{looked, worked}
use Rattle.weedle_rules.proofs.ByteEnds.{stand_within, bytes_fit, bytes_other}
use Rattle.weedle_rules.proofs.work.plain.bytes.Goals as goal

pub stand_at-requires-clause-some : goal.stand_at-requires-clause-some
stand_at-requires-clause-some g c = (bytes_few (among_all c.requires.begun.low) c.requires.row).0

pub stand_at-requires-clause-few : goal.stand_at-requires-clause-few
stand_at-requires-clause-few g c = (bytes_few (among_all c.requires.begun.low) c.requires.row).1

pub overflow_add-result : goal.overflow_add-result
overflow_add-result g c =
    let h = stand_within c.args.bytes.now c.args.reader.now.text c.args.place c.requires.begun.within c.if-stand_at.ensures.value in
    let n = c.requires.begun.fits in
    record { fits = omega arith }

pub returns-then-stand_at : goal.returns-then-stand_at
returns-then-stand_at g c = worked c.requires.begun c.requires.row (looked _ c.stand_at.ensures.same) c.stand_at.ensures.looked (bytes_fit c.args.reader.now.text _ _ c.if-stand_at.ensures.value)

pub returns-else-stand_at : goal.returns-else-stand_at
returns-else-stand_at g c = worked c.requires.begun c.requires.row (looked _ c.stand_at.ensures.same) c.stand_at.ensures.looked (bytes_other c.args.reader.now.text _ _ c.if-stand_at.ensures.value)

use Rattle.std.proofs.Common.{refl, arith}
use Rattle.weedle_refusal.proofs.FurthestCellFacts.{none_first, none_pass, is_furthest, one_is_found, after_start}
use Rattle.weedle_refusal.proofs.diagnose.unmet.furthest_place.Goals as goal

pub loop-cell-init : goal.loop-cell-init
loop-cell-init c = none_first c.args.ends.now.text c.args.start c.args.last

pub loop-cell-preserved-then-marks-word-eq0 : goal.loop-cell-preserved-then-marks-word-eq0
loop-cell-preserved-then-marks-word-eq0 c = none_pass c.args.ends.now.text c.args.start c.args.last c.args.marks.now c.requires.last c.requires.marked _ c.loop-cell.cell c.if-marks-word-eq0.true refl c.loop-cell.invariant

pub returns-then-is_unmet_cell-clause-after : goal.returns-then-is_unmet_cell-clause-after
returns-then-is_unmet_cell-clause-after c =
    let u = c.is_unmet_cell.ensures.0 c.if-is_unmet_cell.true in
    after_start c.args.ends.now.text c.args.start c.args.last c.args.marks.now c.requires.last c.requires.marked u.1.tried

pub returns-then-is_unmet_cell-clause-furthest : goal.returns-then-is_unmet_cell-clause-furthest
returns-then-is_unmet_cell-clause-furthest c =
    let u = c.is_unmet_cell.ensures.0 c.if-is_unmet_cell.true in
    is_furthest c.args.ends.now.text c.args.start c.args.last c.args.marks.now c.requires.last c.requires.marked c.loop-cell.cell c.loop-cell.invariant u.0

pub returns-clause-some : goal.returns-clause-some
returns-clause-some c = absurd (one_is_found c.args.ends.now.text c.args.start c.args.last c.args.marks.now c.requires.last c.requires.marked c.loop-cell.cell c.requires.within (omega arith) c.loop-cell.invariant)

pub returns-clause-furthest : goal.returns-clause-furthest
returns-clause-furthest c = absurd (one_is_found c.args.ends.now.text c.args.start c.args.last c.args.marks.now c.requires.last c.requires.marked c.loop-cell.cell c.requires.within (omega arith) c.loop-cell.invariant)

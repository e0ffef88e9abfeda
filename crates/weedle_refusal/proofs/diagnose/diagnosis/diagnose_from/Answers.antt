use Rattle.std.proofs.Common.{length, refl}
use Rattle.weedle_refusal.proofs.FurthestCellFacts.{diagnosed}
use Rattle.weedle_refusal.proofs.diagnose.diagnosis.diagnose_from.Goals as goal

pub returns : goal.returns
returns c =
    let text = c.args.ends.now.text in
    let far = c.furthest_place-place.ensures in
    let met = c.in_ok-expected.ensures in
    diagnosed text c.args.start (length text) c.in_ok-marks.marks.items refl c.in_ok-marks.ensures.are c.furthest_place-place.result c.in_ok-expected.expected.items far.some far.furthest met.exact met.rising

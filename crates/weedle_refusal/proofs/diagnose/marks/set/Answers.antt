use Rattle.weedle_refusal.proofs.BitFacts.{set_is}
use Rattle.weedle_refusal.proofs.diagnose.marks.set.Goals as goal

pub returns : goal.returns
returns c = λ other. set_is c.args.marks.now c.args.cell other c.requires

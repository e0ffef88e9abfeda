use Rattle.weedle_refusal.proofs.BitFacts.{set_tests}
use Rattle.weedle_refusal.proofs.diagnose.marks.is_set.Goals as goal

pub returns : goal.returns
returns c = set_tests _ _

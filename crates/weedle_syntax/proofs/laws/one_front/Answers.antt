use Rattle.weedle_syntax.proofs.OneFacts.{one_front}
use Rattle.weedle_syntax.proofs.laws.one_front.Goals as goal

pub returns : goal.returns
returns c = one_front

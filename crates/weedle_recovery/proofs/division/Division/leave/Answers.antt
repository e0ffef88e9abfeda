use Rattle.std.proofs.Common.{refl}
use Rattle.weedle_recovery.proofs.CountFacts.{counted_left}
use Rattle.weedle_recovery.proofs.DivisionFacts.{one_left}
use Rattle.weedle_recovery.proofs.division.Division.leave.Goals as goal

pub returns-clause-divided : goal.returns-clause-divided
returns-clause-divided c = one_left c.requires.divided c.requires.fails c.requires.order c.requires.within c.requires.passed c.in_ok-push.ensures.items refl

pub returns-clause-counted : goal.returns-clause-counted
returns-clause-counted c = counted_left _ c.requires.counted refl c.in_ok-push.ensures.items

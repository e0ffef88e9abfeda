use Rattle.weedle_c.proofs.TodayFacts.{never_fails}
use Rattle.weedle_c.proofs.format.todays_front.Goals as goal

pub unreachable-requires : goal.unreachable-requires
unreachable-requires c = never_fails c.args.raw.now 0 (rw c.in-None.is at c.in_ok-nodes.ensures.fails)

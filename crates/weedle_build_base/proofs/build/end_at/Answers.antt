use Rattle.weedle_build_base.proofs.Finding.{not_absent}
use Rattle.weedle_build_base.proofs.WantedFacts.{tried_due}
use Rattle.weedle_build_base.proofs.build.end_at.Goals as goal

pub end-requires : goal.end-requires
end-requires c = tried_due c.requires

pub unreachable-requires : goal.unreachable-requires
unreachable-requires c = not_absent c.requires c.in-None.ensures.right

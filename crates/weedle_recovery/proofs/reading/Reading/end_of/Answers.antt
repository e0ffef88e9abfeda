use Rattle.weedle_recovery.proofs.DivisionFacts.{lands_after, lands_within}
use Rattle.weedle_recovery.proofs.reading.Reading.end_of.Goals as goal

pub returns-clause-after : goal.returns-clause-after
returns-clause-after c = lands_after _ c.in_ok-end.ensures.end

pub returns-clause-within : goal.returns-clause-within
returns-clause-within c = lands_within _ c.in_ok-end.ensures.end c.requires

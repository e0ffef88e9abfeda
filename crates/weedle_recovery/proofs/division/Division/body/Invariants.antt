use Rattle.std.proofs.Common.{length, ◌≤◌, ◌-◌}
use Rattle.weedle_recovery.specs.Counts.{IsCounted}
use Rattle.weedle_recovery.specs.Recovery.{IsDivided}
use Rattle.weedle_recovery.proofs.division.Division.body.Given as goal

-- the text is divided up to here
abbrev pub invariant-loop-end : goal.invariant-loop-end
invariant-loop-end l = (l.inside ≤ l.at) × IsDivided l.text l.self.parts.items l.self.nodes.items l.self.definition l.at
    × IsCounted l.text l.self.parts.items l.self.limits.steps

abbrev pub decreases-loop-end : goal.decreases-loop-end
decreases-loop-end l = length l.text.text - l.at

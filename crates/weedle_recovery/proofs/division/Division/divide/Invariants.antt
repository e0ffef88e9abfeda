use Rattle.std.proofs.Common.{length, ◌-◌}
use Rattle.weedle_recovery.specs.Counts.{IsCounted}
use Rattle.weedle_recovery.specs.Recovery.{IsDivided}
use Rattle.weedle_recovery.proofs.DivisionFacts.{WholeSoFar}
use Rattle.weedle_recovery.proofs.division.Division.divide.Given as goal

-- the text is divided up to here
abbrev pub invariant-loop-at : goal.invariant-loop-at
invariant-loop-at l = IsDivided l.text l.self.parts.items l.self.nodes.items l.self.definition l.at × WholeSoFar l.text.dialect l.text.text l.self.parts.items l.at
    × IsCounted l.text l.self.parts.items l.self.limits.steps

abbrev pub decreases-loop-at : goal.decreases-loop-at
decreases-loop-at l = length l.text.text - l.at

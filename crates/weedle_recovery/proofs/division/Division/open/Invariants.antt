use Rattle.std.proofs.Common.{◌≡◌, ◌≤◌}
use Rattle.weedle_recovery.specs.Counts.{IsCounted}
use Rattle.weedle_recovery.specs.Recovery.{IsDivided}
use Rattle.weedle_recovery.proofs.division.Division.open.Given as goal

-- the text is divided up to here
abbrev pub invariant-loop-number : goal.invariant-loop-number
invariant-loop-number l = (l.place ≤ l.at) × (l.self.definition ≡ l.fn.self.definition) × IsDivided l.text l.self.parts.items l.self.nodes.items l.self.definition l.at
    × IsCounted l.text l.self.parts.items l.self.limits.steps

use Rattle.std.proofs.Common.{ℕ, List, Option, subst}
use Rattle.std.specs.Prelude.{IfNone}
use Rattle.weedle_rules.specs.Outcomes.{FailsAt}
use Rattle.weedle_syntax.specs.declared.node.Node.{Node}
use Rattle.weedle_recovery.specs.Counts.{ReadingView}
use Rattle.weedle_recovery.specs.declared.part.Part.{Part}
use Rattle.weedle_recovery.specs.Recovery.{IsDivided}
use Rattle.weedle_recovery.proofs.division.Division.take_surely.Goals as goal

-- what a rule's reading ensures, once it is known to fail
abbrev Refused : ReadingView → ℕ → ℕ → List Part → List Node → ℕ → Option ℕ → Type 0
Refused reading rule place parts nodes definition o = IfNone o (FailsAt reading.text rule place × IsDivided reading parts nodes definition place)

pub unreachable-requires : goal.unreachable-requires
unreachable-requires c =
    let refused = subst (Refused c.args.text.now c.args.rule c.args.place c.take.new.self.parts.items c.take.new.self.nodes.items c.take.new.self.definition) c.in-None.is c.in_ok-end.ensures.not in
    c.requires.never refused.0

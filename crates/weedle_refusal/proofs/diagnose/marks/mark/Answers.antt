use Rattle.std.proofs.Common.{◌≡◌, ◌⊎◌, subst}
use Rattle.std.specs.Prelude.{◌↔◌}
use Rattle.weedle_refusal.specs.Marks.{IsSet}
use Rattle.weedle_refusal.proofs.MarkingFacts.{adds_bit}
use Rattle.weedle_refusal.proofs.diagnose.marks.mark.Goals as goal

pub returns : goal.returns
returns c = adds_bit c.args.last c.args.rule c.args.place c.args.marks.now c.set.new.marks c.requires.here c.set.auto.marks
    (λ other. subst (λ k. IsSet c.set.new.marks other ↔ (IsSet c.args.marks.now other ⊎ (other ≡ k))) c.cell_of.ensures (c.set.ensures other))

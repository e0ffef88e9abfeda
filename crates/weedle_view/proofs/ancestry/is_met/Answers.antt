use Rattle.std.proofs.Common.{◌≡◌, true, sym, ◌∙◌}
use Rattle.weedle_view.proofs.AncestryFacts.{met_at}
use Rattle.weedle_view.proofs.ancestry.is_met.Goals as goal

pub returns-then-eq : goal.returns-then-eq
returns-then-eq c = sym (met_at c.args.met.now c.args.name.now c.loop-before.before-index _ c.loop-before-test.true (sym c.eq.ensures ∙ c.if-eq.true))

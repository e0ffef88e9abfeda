use Rattle.std.proofs.Common.{◌≡◌, false, map, take}
use Rattle.weedle_view.specs.Ancestry.{is_met}
use Rattle.weedle_view.proofs.ancestry.is_met.Given as goal

abbrev pub invariant-loop-before : goal.invariant-loop-before
invariant-loop-before l = is_met (map (λ m. m.now) (take l.before-index l.met)) l.name ≡ false

use Rattle.std.proofs.Common.{◌≡◌, filter, map, take}
use Rattle.weedle_view.specs.Parts.{is_included_in}
use Rattle.weedle_view.proofs.parts.included_into.Given as goal

abbrev pub invariant-loop-definition : goal.invariant-loop-definition
invariant-loop-definition l = map (λ d. d.now) l.included.items ≡ filter (is_included_in l.definitions l.name) (take l.definition-index l.definitions)

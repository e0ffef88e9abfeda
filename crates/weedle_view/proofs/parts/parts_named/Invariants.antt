use Rattle.std.proofs.Common.{◌≡◌, filter, map, take}
use Rattle.weedle_view.specs.Parts.{is_part_of}
use Rattle.weedle_view.proofs.parts.parts_named.Given as goal

abbrev pub invariant-loop-definition : goal.invariant-loop-definition
invariant-loop-definition l = map (λ d. d.now) l.parts.items ≡ filter (is_part_of l.name) (take l.definition-index l.definitions)

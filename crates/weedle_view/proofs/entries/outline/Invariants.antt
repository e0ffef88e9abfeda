use Rattle.std.proofs.Common.{◌≡◌, map, take}
use Rattle.weedle_view.specs.Outline.{outlined, said}
use Rattle.weedle_view.proofs.entries.outline.Given as goal

abbrev pub invariant-loop-definition : goal.invariant-loop-definition
invariant-loop-definition l = map said l.entries.items ≡ map outlined (take l.definition-index l.definition-items)

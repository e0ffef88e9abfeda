use Rattle.std.proofs.Common.{◌≡◌, false, take}
use Rattle.std.specs.List.{list_any}
use Rattle.weedle_view.specs.Parts.{includes}
use Rattle.weedle_view.proofs.parts.is_included.Given as goal

abbrev pub invariant-loop-definition : goal.invariant-loop-definition
invariant-loop-definition l = list_any (includes l.name l.mixin) (take l.definition-index l.definitions) ≡ false

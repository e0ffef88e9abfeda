use Rattle.std.proofs.Common.{◌≡◌, None, find, take}
use Rattle.weedle_view.specs.Parts.{is_whole_of}
use Rattle.weedle_view.proofs.parts.definition_named.Given as goal

abbrev pub invariant-loop-definition : goal.invariant-loop-definition
invariant-loop-definition l = find (is_whole_of l.name) (take l.definition-index l.definitions) ≡ None

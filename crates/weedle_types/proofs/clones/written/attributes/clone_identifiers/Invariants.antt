use Rattle.std.proofs.Common.{◌≡◌, map, take}
use Rattle.weedle_parts.specs.ValueTrees.{identifier_tree}
use Rattle.weedle_types.proofs.clones.written.attributes.clone_identifiers.Given as goal

abbrev pub invariant-loop-item : goal.invariant-loop-item
invariant-loop-item l = map identifier_tree l.clones.items ≡ map identifier_tree (take l.item-index l.original.items)

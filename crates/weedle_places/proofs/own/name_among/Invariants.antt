use Rattle.std.proofs.Common.{◌≡◌, length}
use Rattle.weedle_syntax.specs.Tree.{children_of}
use Rattle.weedle_places.specs.Around.{name_among}
use Rattle.weedle_places.proofs.NumberFacts.{AreBelow}
use Rattle.weedle_places.proofs.own.name_among.Given as goal

abbrev pub invariant-loop-child : goal.invariant-loop-child
invariant-loop-child l = record {
  same : name_among l.syntax.nodes l.child-iterator ≡ name_among l.syntax.nodes (children_of l.syntax.nodes l.fn.node);
  below : AreBelow (length l.syntax.nodes) l.child-iterator;
}

use Rattle.std.proofs.Common.{ltb, ltb-true, ltb-false, arith, rules}
use Rattle.std.proofs.lemmas.List.Sorted.{IsPartitionPoint-from_clause, IsPartitionedBy-ltb}
use Rattle.weedle_syntax.specs.declared.node.Node.{Node}
use Rattle.weedle_syntax.specs.Syntax.{root_to}
use Rattle.weedle_places.proofs.comments.begun_before.Goals as goal

pub returns : goal.returns
returns c =
    let parted = IsPartitionedBy-ltb (λ (n : Node). n.start) _ c.args.place c.requires.rise in
    let point = IsPartitionPoint-from_clause (λ (n : Node). ltb n.start c.args.place) _ _ c.partition_point.ensures.partitioned parted (λ a r q k. search rules) in
    record {
      few = c.partition_point.ensures.bound;
      before = λ j l. ltb-true _ _ (point.0 j (root_to 0) (omega arith) l);
      behind = λ j a l. ltb-false _ _ (point.1 j (root_to 0) a l);
    }

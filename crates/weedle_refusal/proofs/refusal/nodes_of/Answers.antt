use Rattle.weedle_refusal.proofs.refusal.nodes_of.Goals as goal

pub unreachable-requires : goal.unreachable-requires
unreachable-requires c = c.requires (rw c.in-None.is at c.in_ok-nodes.ensures.fails)

use Rattle.std.proofs.Common.{◌∙◌, ap}
use Rattle.weedle_syntax.proofs.FillFacts.{one_written}
use Rattle.weedle_syntax.proofs.fill.write_longs.Goals as goal

pub loop-i-preserved : goal.loop-i-preserved
loop-i-preserved g c =
    one_written g.T.FromNode.of c.args.at c.args.longs.now c.args.room.now c.loop-i.room c.loop-i.i c.index-longs-i.result c.from_node.result c.loop-i.invariant c.loop-i-test.true c.requires.room
    (c.from_node.ensures ∙ ap g.T.FromNode.of (c.node.ensures.same ∙ c.index-longs-i.is))

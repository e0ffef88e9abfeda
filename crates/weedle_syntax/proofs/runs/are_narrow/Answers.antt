use Rattle.std.proofs.Common.{◌∙◌, subst}
use Rattle.std.proofs.lemmas.List.{take_all}
use Rattle.std.proofs.lemmas.List.Elements.{All-more}
use Rattle.std.specs.Prelude.{All}
use Rattle.weedle_syntax.specs.Compact.{IsNarrow}
use Rattle.weedle_syntax.proofs.runs.are_narrow.Goals as goal

pub loop-node-preserved : goal.loop-node-preserved
loop-node-preserved c =
    All-more IsNarrow c.args.found.now c.loop-node.node-index c.node-item.result c.loop-node-test.true
    c.loop-node.invariant (subst IsNarrow (c.node.ensures.same ∙ c.node-item.is) c.node.ensures.narrow)

pub returns : goal.returns
returns c =
    subst (All IsNarrow) (take_all c.loop-node.node-index c.args.found.now c.loop-node-test.false) c.loop-node.invariant

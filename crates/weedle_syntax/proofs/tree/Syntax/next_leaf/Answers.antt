use Rattle.std.proofs.Common.{sym, ◌∙◌, arith}
use Rattle.weedle_syntax.specs.Tree.{IsLeaf}
use Rattle.weedle_syntax.proofs.BelowFacts.{count_read}
use Rattle.weedle_syntax.proofs.WalkFacts.{none_yet}
use Rattle.weedle_syntax.proofs.tree.Syntax.next_leaf.Goals as goal

pub returns-then-index-eq0 : goal.returns-then-index-eq0
returns-then-index-eq0 c =
    let many = c.self.inside.nodes.ok.0 in
    let count = count_read c.self.inside.nodes.items c.self.inside.below.items 0 c.loop-node.node _ c.self.invariant.counted (omega arith) (omega (arith, many, c.len-node-end.ensures)) c.index.ensures in
    let after = c.loop-node.auto.node in
    rw (← c.self.view_is) (record {
      after = omega arith;
      within = omega (arith, many, c.len-node-end.ensures);
      holds = sym count ∙ c.if-index-eq0.true;
      first = c.loop-node.invariant;
    })

pub loop-node-preserved : goal.loop-node-preserved
loop-node-preserved c =
    let many = c.self.inside.nodes.ok.0 in
    let count = count_read c.self.inside.nodes.items c.self.inside.below.items 0 c.loop-node.node _ c.self.invariant.counted (omega arith) (omega (arith, many, c.len-node-end.ensures)) c.index.ensures in
    none_yet (IsLeaf c.self.inside.nodes.items) c.args.from c.loop-node.node c.loop-node.invariant (λ h. c.if-index-eq0.false (count ∙ h))

pub returns : goal.returns
returns c =
    let many = c.self.inside.nodes.ok.0 in
    rw (← c.self.view_is) (λ j a l h. c.loop-node.invariant j a (omega (arith, many, c.len-node-end.ensures)) h)

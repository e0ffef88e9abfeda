use Rattle.std.proofs.Common.{◌-◌, subst, arith}
use Rattle.weedle_syntax.proofs.BelowFacts.{depth_read}
use Rattle.weedle_syntax.proofs.StepFacts.{joined}
use Rattle.weedle_syntax.proofs.WalkFacts.{IsBack, back_start, back_step, parent_is, no_parent}
use Rattle.weedle_syntax.proofs.tree.Syntax.parent.Goals as goal

pub loop-at-init : goal.loop-at-init
loop-at-init c = back_start c.self.inside.nodes.items c.args.node

pub loop-at-preserved : goal.loop-at-preserved
loop-at-preserved c =
    let here = rw (← c.self.view_is) at c.requires in
    let back = c.loop-at.invariant.within in
    let own = depth_read c.self.inside.nodes.items c.args.node _ here c.index.ensures in
    let other = depth_read c.self.inside.nodes.items (c.loop-at.at - 1) _ (omega arith) c.index-in-loop-at.ensures in
    back_step c.self.inside.nodes.items c.args.node c.loop-at.at (c.loop-at.at - 1) (omega arith) c.loop-at.invariant (omega (arith, own, other))

pub returns-then-index-depth : goal.returns-then-index-depth
returns-then-index-depth c =
    let here = rw (← c.self.view_is) at c.requires in
    let j = joined c.self.inside.dialect _ _ c.self.invariant.front in
    let back = c.loop-at.invariant.within in
    let own = depth_read c.self.inside.nodes.items c.args.node _ here c.index.ensures in
    let other = depth_read c.self.inside.nodes.items (c.loop-at.at - 1) _ (omega arith) c.index-in-loop-at.ensures in
    rw (← c.self.view_is) (parent_is c.self.inside.nodes.items j.0 j.2 c.args.node (c.loop-at.at - 1) here
    (subst (IsBack c.self.inside.nodes.items c.args.node) (omega arith) c.loop-at.invariant) (omega (arith, own, other)))

pub returns : goal.returns
returns c =
    let here = rw (← c.self.view_is) at c.requires in
    let j = joined c.self.inside.dialect _ _ c.self.invariant.front in
    no_parent c.self.inside.nodes.items j.0 j.2 c.args.node here (subst (IsBack c.self.inside.nodes.items c.args.node) (omega arith) c.loop-at.invariant)

use Rattle.std.proofs.Common.{refl, ◌∙◌, arith}
use Rattle.weedle_syntax.proofs.BelowFacts.{count_read}
use Rattle.weedle_syntax.proofs.StepFacts.{joined}
use Rattle.weedle_syntax.proofs.WalkFacts.{first_is_child}
use Rattle.weedle_syntax.proofs.tree.Syntax.first_child.Goals as goal

pub returns-else-index-eq0 : goal.returns-else-index-eq0
returns-else-index-eq0 c =
    let here = rw (← c.self.view_is) at c.requires in
    let count = count_read c.self.inside.nodes.items c.self.inside.below.items 0 c.args.node _ c.self.invariant.counted (omega arith) here c.index.ensures in
    let j = joined c.self.inside.dialect _ _ c.self.invariant.front in
    rw (← c.self.view_is) (refl, first_is_child c.self.inside.nodes.items j.0 j.2 c.args.node here (λ z. c.if-index-eq0.false (count ∙ z)))

use Rattle.std.proofs.Common.{arith}
use Rattle.weedle_syntax.proofs.BelowFacts.{below_within, count_read, depth_read}
use Rattle.weedle_syntax.proofs.StepFacts.{joined}
use Rattle.weedle_syntax.proofs.IterFacts.{children_begin}
use Rattle.weedle_syntax.proofs.tree.Syntax.children.Goals as goal

pub overflow_add-result-3 : goal.overflow_add-result-3
overflow_add-result-3 c =
    let here = rw (← c.self.view_is) at c.requires in
    let count = count_read c.self.inside.nodes.items c.self.inside.below.items 0 c.args.node _ c.self.invariant.counted (omega arith) here c.index-2.ensures in
    let within = below_within c.self.inside.nodes.items c.args.node here in
    let many = c.self.inside.nodes.ok.0 in
    omega (arith, count, within, c.deref.ensures.len, c.deref.type_inv)

pub invariant_of-result : goal.invariant_of-result
invariant_of-result c =
    let here = rw (← c.self.view_is) at c.requires in
    let j = joined c.self.inside.dialect _ _ c.self.invariant.front in
    let count = count_read c.self.inside.nodes.items c.self.inside.below.items 0 c.args.node _ c.self.invariant.counted (omega arith) here c.index-2.ensures in
    let depth = depth_read c.self.inside.nodes.items c.args.node _ here c.index.ensures in
    let begin = children_begin c.self.inside.nodes.items c.self.inside.below.items c.args.node here j.0 c.index-2.result.now j.2 c.self.invariant.counted count in
    rw (c.deref.ensures.value, c.deref-2.ensures.value, depth) begin

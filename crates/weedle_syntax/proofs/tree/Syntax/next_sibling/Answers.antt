use Rattle.std.proofs.Common.{◌+◌, sym, ◌∙◌, ap, arith}
use Rattle.weedle_syntax.proofs.BelowFacts.{below_within, count_read, depth_read}
use Rattle.weedle_syntax.proofs.StepFacts.{joined}
use Rattle.weedle_syntax.proofs.WalkFacts.{sibling_is_child, last_ends_parent}
use Rattle.weedle_syntax.proofs.tree.Syntax.next_sibling.Goals as goal

pub overflow_add-next : goal.overflow_add-next
overflow_add-next c =
    let here = rw (← c.self.view_is) at c.requires in
    let count = count_read c.self.inside.nodes.items c.self.inside.below.items 0 c.args.node _ c.self.invariant.counted (omega arith) here c.index.ensures in
    let within = below_within c.self.inside.nodes.items c.args.node here in
    let many = c.self.inside.nodes.ok.0 in
    omega (arith, c.len-many.ensures, c.len-many.type_inv)

pub overflow_add-next-2 : goal.overflow_add-next-2
overflow_add-next-2 c =
    let here = rw (← c.self.view_is) at c.requires in
    let count = count_read c.self.inside.nodes.items c.self.inside.below.items 0 c.args.node _ c.self.invariant.counted (omega arith) here c.index.ensures in
    let within = below_within c.self.inside.nodes.items c.args.node here in
    let many = c.self.inside.nodes.ok.0 in
    omega (arith, c.len-many.ensures, c.len-many.type_inv)

pub returns-then-index-clause-some : goal.returns-then-index-clause-some
returns-then-index-clause-some c =
    let here = rw (← c.self.view_is) at c.requires in
    let j = joined c.self.inside.dialect _ _ c.self.invariant.front in
    let count = count_read c.self.inside.nodes.items c.self.inside.below.items 0 c.args.node _ c.self.invariant.counted (omega arith) here c.index.ensures in
    let many = c.self.inside.nodes.ok.0 in
    let next = c.args.node + c.index.result.now + 1 in
    let is = ap (λ k. c.args.node + k + 1) count in
    let own = depth_read c.self.inside.nodes.items c.args.node _ here c.index-then-next-many-2.ensures in
    let other = depth_read c.self.inside.nodes.items next _ (omega (arith, many, c.len-many.ensures)) c.index-then-next-many.ensures in
    rw (← c.self.view_is) (
      is,
      omega (arith, many, c.len-many.ensures),
      λ p h. sibling_is_child c.self.inside.nodes.items j.0 j.2 p c.args.node next is here h (omega (arith, many, c.len-many.ensures)) (sym other ∙ c.if-index.true ∙ own),
    )

pub returns-else-index-clause-none : goal.returns-else-index-clause-none
returns-else-index-clause-none c =
    let here = rw (← c.self.view_is) at c.requires in
    let j = joined c.self.inside.dialect _ _ c.self.invariant.front in
    let count = count_read c.self.inside.nodes.items c.self.inside.below.items 0 c.args.node _ c.self.invariant.counted (omega arith) here c.index.ensures in
    let many = c.self.inside.nodes.ok.0 in
    let next = c.args.node + c.index.result.now + 1 in
    let is = ap (λ k. c.args.node + k + 1) count in
    let own = depth_read c.self.inside.nodes.items c.args.node _ here c.index-then-next-many-2.ensures in
    let other = depth_read c.self.inside.nodes.items next _ (omega (arith, many, c.len-many.ensures)) c.index-then-next-many.ensures in
    rw (← c.self.view_is) (λ p h. last_ends_parent c.self.inside.nodes.items j.0 j.2 p c.args.node next is here h (λ l e. c.if-index.false (other ∙ e ∙ sym own)))

pub returns-else-next-many-clause-none : goal.returns-else-next-many-clause-none
returns-else-next-many-clause-none c =
    let here = rw (← c.self.view_is) at c.requires in
    let j = joined c.self.inside.dialect _ _ c.self.invariant.front in
    let count = count_read c.self.inside.nodes.items c.self.inside.below.items 0 c.args.node _ c.self.invariant.counted (omega arith) here c.index.ensures in
    let many = c.self.inside.nodes.ok.0 in
    let next = c.args.node + c.index.result.now + 1 in
    let is = ap (λ k. c.args.node + k + 1) count in
    rw (← c.self.view_is) (λ p h. last_ends_parent c.self.inside.nodes.items j.0 j.2 p c.args.node next is here h (λ l e. absurd (omega (arith, many, c.len-many.ensures))))

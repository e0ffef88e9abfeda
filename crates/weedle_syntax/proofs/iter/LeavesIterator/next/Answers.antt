use Rattle.std.proofs.Common.{◌≡◌, [], ◌∷◌, ◌+◌, length, slice_index, inl, inr, subst, ap, arith, ne_eqb}
use Rattle.std.proofs.lemmas.Bool.{cases_lt}
use Rattle.weedle_syntax.specs.Tree.{zeros_from}
use Rattle.weedle_syntax.proofs.IterFacts.{no_zero, zero_found, none_at_end}
use Rattle.weedle_syntax.proofs.iter.LeavesIterator.next.Goals as goal

pub bounds-self-inside-node : goal.bounds-self-inside-node
bounds-self-inside-node c = omega (arith, ap length c.loop-node.invariant.0)

pub invariant_of-self : goal.invariant_of-self
invariant_of-self c = omega (arith, ap length c.loop-node.invariant.0)

pub loop-node-preserved : goal.loop-node-preserved
loop-node-preserved c = (
  c.loop-node.invariant.0,
  λ k a l. elim (cases_lt k c.loop-node.node) [
    | inl m ↦ c.loop-node.invariant.1 k a m
    | inr m ↦ ne_eqb _ _ (λ z. c.if-self-node-eq0.false (subst (λ j. slice_index c.loop-node.self-inside.below.now j ≡ 0) (omega arith) z))
  ],
)

pub returns-then-self-node-eq0-clause-steps : goal.returns-then-self-node-eq0-clause-steps
returns-then-self-node-eq0-clause-steps c =
    let counts = c.loop-node.self-inside.below.now in
    let next = c.self.inside.next in
    let node = c.loop-node.node in
    let same = c.loop-node.invariant.0 in
    let after = c.loop-node.auto.node in
    let is = zero_found counts next node (omega arith) (omega (arith, ap length same)) c.loop-node.invariant.1 c.if-self-node-eq0.true in
    rw (← c.self.view_is) (subst (λ z. zeros_from z next ≡ node ∷ zeros_from counts (node + 1)) same is)

pub returns-then-self-node-eq0-clause-goes : goal.returns-then-self-node-eq0-clause-goes
returns-then-self-node-eq0-clause-goes c =
    let many = ap length (returns-then-self-node-eq0-clause-steps c) in
    record { on = λ f. (tt, tt, omega (arith, many)); keeps = tt; rests = λ f. tt }

pub returns-clause-steps : goal.returns-clause-steps
returns-clause-steps c =
    let counts = c.loop-node.self-inside.below.now in
    let next = c.self.inside.next in
    let same = c.loop-node.invariant.0 in
    let none = no_zero counts next (omega (arith, ap length same)) (λ k a l. c.loop-node.invariant.1 k a (omega (arith, ap length same))) in
    rw (← c.self.view_is) (subst (λ z. zeros_from z next ≡ []) same none, none_at_end counts)

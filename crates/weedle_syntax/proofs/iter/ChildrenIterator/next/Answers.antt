use Rattle.std.proofs.Common.{◌+◌, ◌<◌, length, slice_index, sym, ◌∙◌, ap, arith}
use Rattle.weedle_syntax.proofs.IterFacts.{none_behind, count_is, hop_within, hopped_on, next_is_first}
use Rattle.weedle_syntax.proofs.iter.ChildrenIterator.next.Goals as goal

pub returns-then-self-clause-steps : goal.returns-then-self-clause-steps
returns-then-self-clause-steps c =
    let i = c.self.inside in
    let none = none_behind i.nodes.now i.below.now i.depth i.next i.end c.self.invariant (omega arith) in
    rw (← c.self.view_is) (none, none)

pub overflow_add-self : goal.overflow_add-self
overflow_add-self c =
    let i = c.self.inside in
    let some : i.next < i.end = omega arith in
    let count = count_is i.nodes.now i.below.now i.depth i.next i.end c.self.invariant some in
    let within = hop_within i.nodes.now i.below.now i.depth i.next i.end c.self.invariant (i.next + slice_index i.below.now i.next + 1) some (ap (λ k. i.next + k + 1) count) in
    omega (arith, within)

pub overflow_add-self-2 : goal.overflow_add-self-2
overflow_add-self-2 c =
    let i = c.self.inside in
    let some : i.next < i.end = omega arith in
    let count = count_is i.nodes.now i.below.now i.depth i.next i.end c.self.invariant some in
    let within = hop_within i.nodes.now i.below.now i.depth i.next i.end c.self.invariant (i.next + slice_index i.below.now i.next + 1) some (ap (λ k. i.next + k + 1) count) in
    omega (arith, within)

pub invariant_of-self : goal.invariant_of-self
invariant_of-self c =
    let i = c.self.inside in
    let some : i.next < i.end = omega arith in
    let count = count_is i.nodes.now i.below.now i.depth i.next i.end c.self.invariant some in
    hopped_on i.nodes.now i.below.now i.depth i.next i.end c.self.invariant (i.next + slice_index i.below.now i.next + 1) some (ap (λ k. i.next + k + 1) count)

pub returns-clause-steps : goal.returns-clause-steps
returns-clause-steps c =
    let i = c.self.inside in
    let some : i.next < i.end = omega arith in
    let count = count_is i.nodes.now i.below.now i.depth i.next i.end c.self.invariant some in
    rw (← c.self.view_is) (next_is_first i.nodes.now i.below.now i.depth i.next i.end c.self.invariant (i.next + slice_index i.below.now i.next + 1) some (ap (λ k. i.next + k + 1) count))

pub returns-clause-goes : goal.returns-clause-goes
returns-clause-goes c =
    let i = c.self.inside in
    let some : i.next < i.end = omega arith in
    let count = count_is i.nodes.now i.below.now i.depth i.next i.end c.self.invariant some in
    let first = next_is_first i.nodes.now i.below.now i.depth i.next i.end c.self.invariant (i.next + slice_index i.below.now i.next + 1) some (ap (λ k. i.next + k + 1) count) in
    let many = ap length (sym c.self.view_is ∙ first) in
    record { on = λ f. (tt, tt, omega (arith, many)); keeps = tt; rests = λ f. tt }

use Rattle.std.proofs.Common.{sym, arith}
use Rattle.std.proofs.lemmas.Bool.{leb-true, le-leb, ltb-true}
use Rattle.weedle_nesting.specs.Nesting.{opens_bracket, closes_bracket}
use Rattle.weedle_nesting.proofs.NestingFacts.{seen_past, seen_end, brackets_of_brackets}
use Rattle.weedle_nesting.proofs.WeightFacts.{last, one_deeper, step, step_on, too_much}
use Rattle.weedle_nesting.proofs.weights.suits_descent.Goals as goal

-- so much is weighed that the text doesn't suit
pub returns-then-seen-most : goal.returns-then-seen-most
returns-then-seen-most c =
    let h = c.marks.invariant.1 in
    let s = step _ _ _ _ _ h _ _ _ (sym c.in-Some.ensures.first) (c.past_mark-behind.ensures.weighs _) in
    record { exact = (λ e. cc, λ suits. absurd (too_much _ _ _ _ _ h _ _ _ _ s c.weigh.ensures.work (omega arith) (omega (arith, c.if-seen-most.true)) suits.0)) }

-- a mark more is seen
pub marks-preserved : goal.marks-preserved
marks-preserved c =
    let h = c.marks.invariant.1 in
    let found = sym c.in-Some.ensures.first in
    let behind = c.past_mark-behind.ensures in
    let s = step _ _ _ _ _ h _ _ _ found (behind.weighs _) in
    let same = c.weigh.ensures.same in
    let counted = rw (same.0, same.1, same.2) at c.count.ensures in (
      seen_past opens_bracket closes_bracket brackets_of_brackets _ _ _ _ _ _ _ _
          c.marks.invariant.0 found c.in-Some.ensures.shorter behind.bare behind.shorter counted.brackets counted.most_brackets,
      rw counted.work (step_on _ _ _ _ _ h _ _ _ _ s c.weigh.ensures.work (omega arith) (omega (arith, c.if-seen-most.false)) _ _
          counted.depth counted.weight counted.light (rw counted.depth (one_deeper c.marks.seen.depth c.in-Some.mark))),
    )

-- no mark is left, and the text weighs little
pub returns-then-seen-most-2 : goal.returns-then-seen-most-2
returns-then-seen-most-2 c =
    let none = sym c.in_default.ensures.first in
    let all = last _ _ _ _ _ c.marks.invariant.1 none in
    let most = seen_end opens_bracket closes_bracket brackets_of_brackets _ _ _ _ c.marks.invariant.0 none in
    let work = c.weigh-2.ensures.work in
    let few = c.if-seen-most-2.true in
    rw (c.weigh-2.ensures.same.2, most)
    record { exact = (λ e. (omega (arith, all, work, few), leb-true _ _ e), λ suits. le-leb _ _ suits.1) }

-- no mark is left, and the text weighs too much
pub returns-else-seen-most-2 : goal.returns-else-seen-most-2
returns-else-seen-most-2 c =
    let none = sym c.in_default.ensures.first in
    let all = last _ _ _ _ _ c.marks.invariant.1 none in
    let work = c.weigh-2.ensures.work in
    let much = c.if-seen-most-2.false in
    record {
      exact = (λ e. let few = ltb-true _ _ e in absurd (omega (arith, few, much)), λ suits. absurd (omega (arith, all, suits.0, work, much)));
    }

use Rattle.std.proofs.Common.{arith, ◌∙◌}
use Rattle.weedle_memo.specs.Closure.{memory_of}
use Rattle.weedle_memo.proofs.GrowthFacts.{worked_last, extends_behind}
use Rattle.weedle_memo.proofs.OwnFacts.{own_on}
use Rattle.weedle_memo.proofs.leaves.fill_back.Goals as goal

pub returns-then-at-place-clause-worked : goal.returns-then-at-place-clause-worked
returns-then-at-place-clause-worked c = worked_last {m = memory_of c.args.reader.now} {n = memory_of c.places.reader} c.args.rule c.args.place c.places.at c.args.outcome c.places.invariant.5 c.in_ok-fill_in.ensures.worked c.if-at-place.true

pub places-preserved : goal.places-preserved
places-preserved c =
    let order = c.places.invariant.0 in
    let within = c.places.invariant.1 in
    let further = c.if-at-place.false in (
      omega arith,
      omega arith,
      omega arith,
      omega arith,
      (c.fill_in.ensures.same.0 ∙ c.places.invariant.4.0, c.fill_in.ensures.same.1 ∙ c.places.invariant.4.1, c.fill_in.ensures.same.2 ∙ c.places.invariant.4.2),
      extends_behind {m = memory_of c.args.reader.now} {n = memory_of c.places.reader} c.args.rule c.args.place c.places.at c.args.outcome c.places.invariant.5 c.in_ok-fill_in.ensures.worked order,
    )

pub fill_in-requires-clause-own : goal.fill_in-requires-clause-own
fill_in-requires-clause-own c = own_on c.args.rule c.places.invariant.4.2 c.requires.own

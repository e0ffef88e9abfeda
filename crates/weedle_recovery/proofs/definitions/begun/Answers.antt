use Rattle.std.proofs.Common.{◌≡◌, sym, ◌∙◌, arith, subst}
use Rattle.weedle_recovery.specs.Dialects.{beginnings_of}
use Rattle.weedle_recovery.proofs.StopFacts.{AreLeft, no_more, one_reads, one_less, none_left}
use Rattle.weedle_recovery.proofs.definitions.begun.Goals as goal

pub returns-then-branch-clause-some : goal.returns-then-branch-clause-some
returns-then-branch-clause-some c = record {
  one = one_reads c.args.text.now.dialect c.args.text.now.text c.args.place (beginnings_of c.args.text.now.dialect) c.loop-number.number (sym c.beginning.ensures ∙ c.in-Some.is)
      (c.in_ok-front_reads.ensures.yes c.if-branch.true);
}

pub loop-number-preserved : goal.loop-number-preserved
loop-number-preserved c = (
  one_less c.args.text.now.dialect c.args.text.now.text c.args.place (beginnings_of c.args.text.now.dialect) c.loop-number.number (sym c.beginning.ensures ∙ c.in-Some.is)
      (c.in_ok-front_reads.ensures.no c.if-branch.false) c.loop-number.invariant.0,
  omega (arith, c.loop-number.invariant.1, c.in_ok-front_reads.ensures.falls),
)

pub returns-clause-none : goal.returns-clause-none
returns-clause-none c = λ b.
    let dialect = c.args.text.now.dialect in
    let text = c.args.text.now.text in
    let end : c.loop-number.number ≡ 14 = omega (arith, c.loop-number-test.false, c.loop-number.auto.number-end) in
    none_left dialect text c.args.place (beginnings_of dialect) 14 (no_more dialect) (subst (AreLeft dialect text c.args.place (beginnings_of dialect)) end c.loop-number.invariant.0 b.one)

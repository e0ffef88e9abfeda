use Rattle.std.proofs.Common.{sym, ◌∙◌, arith}
use Rattle.weedle_rules.proofs.OutcomeFacts.{it_ends, it_fails}
use Rattle.weedle_starts.proofs.ReadFacts.{ends_inside}
use Rattle.weedle_syntax.proofs.DescentFacts.{has_now}
use Rattle.weedle_recovery.specs.Dialects.{parts_of}
use Rattle.weedle_recovery.proofs.StopFacts.{reads_on, reads_not}
use Rattle.weedle_recovery.proofs.definitions.front_reads.Goals as goal

pub returns-in-None-clause-no : goal.returns-in-None-clause-no
returns-in-None-clause-no c = λ e h.
    reads_not c.args.text.now.text (parts_of c.args.text.now.dialect c.args.definition) c.loop-number.number c.args.place c.loop-number.at c.loop-number.invariant.1
    c.loop-number-test.true (sym c.part.ensures ∙ c.in-Some.is) (it_fails (has_now c.in-None.is c.in_ok-end.ensures.end)) h

pub loop-number-preserved : goal.loop-number-preserved
loop-number-preserved c = (
  ends_inside (it_ends (has_now c.in-Some-2.is c.in_ok-end.ensures.end)) c.loop-number.invariant.0,
  reads_on c.args.text.now.text (parts_of c.args.text.now.dialect c.args.definition) c.loop-number.number c.args.place c.loop-number.at c.loop-number.invariant.1
      (sym c.part.ensures ∙ c.in-Some.is) (it_ends (has_now c.in-Some-2.is c.in_ok-end.ensures.end)),
  omega (arith, c.loop-number.invariant.2, c.in_ok-end.ensures.falls),
)

use Rattle.std.proofs.Common.{◌≡◌, true, sym, subst, arith}
use Rattle.weedle_grammar.specs.written.Bound.{rule_count}
use Rattle.weedle_refusal.specs.Marks.{IsSet}
use Rattle.weedle_refusal.specs.Diagnosis.{IsUnmetIn}
use Rattle.weedle_refusal.specs.Noted.{Notes, AreOpened}
use Rattle.weedle_refusal.proofs.DiagnosisFacts.{none_opened, one_opened, none_more}
use Rattle.weedle_refusal.proofs.StepFacts.{count_none, count_one}
use Rattle.weedle_refusal.proofs.diagnose.opened.opened.Goals.{then-has+in_ok-read, else-has}
use Rattle.weedle_refusal.proofs.diagnose.opened.opened.Goals as goal

pub loop-number-init : goal.loop-number-init
loop-number-init c = (
  none_opened c.args.text.now c.args.first.now c.new-found.result c.new-found.ensures.place c.new-found.ensures.leaves c.new-found.ensures.none,
  count_none c.args.text.now c.args.first.now.place c.args.left.now,
)

pub loop-number-preserved : goal.loop-number-preserved
loop-number-preserved c =
    let text = c.args.text.now in
    let first = c.args.first.now in
    let e = c.rule_of-rule.ensures in
    elim c.if-has.branch [
      | then-has+in_ok-read w ↦ rw (w.found-is, w.left-is) (
        one_opened text first c.loop-number.number c.loop-number.invariant.0 (subst (IsSet first.marks) e (c.has.ensures.0 w.if-has.true))
            (subst (λ r. Notes text (IsUnmetIn text r first.place) c.loop-number.found w.read.new.furthest) e w.in_ok-read.ensures.notes),
        count_one text c.loop-number.invariant.1 w.in_ok-read.ensures.steps,
      )
      | else-has w ↦ rw (w.found-is, w.left-is) (
        none_more text first c.loop-number.number c.loop-number.invariant.0 (λ u. let y : c.has.result ≡ true = c.has.ensures.1 (subst (IsSet first.marks) (sym e) u) in let n = w.if-has.false in cc),
        c.loop-number.invariant.1,
      )
    ]

pub returns-clause-opened : goal.returns-clause-opened
returns-clause-opened c =
    let e : c.loop-number.number ≡ rule_count = omega arith in
    subst (λ n. AreOpened c.args.text.now c.args.first.now n c.loop-number.found) e c.loop-number.invariant.0

pub returns-clause-steps : goal.returns-clause-steps
returns-clause-steps c = c.loop-number.invariant.1

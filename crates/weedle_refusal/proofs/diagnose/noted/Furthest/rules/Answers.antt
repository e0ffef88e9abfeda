use Rattle.std.proofs.Common.{◌≡◌, true, refl, arith}
use Rattle.weedle_grammar.specs.written.Bound.{rule_count}
use Rattle.weedle_refusal.specs.Marks.{IsSet}
use Rattle.weedle_refusal.proofs.ListingFacts.{lists_pushed, lists_skipped, lists_whole}
use Rattle.weedle_refusal.proofs.diagnose.noted.Furthest.rules.Goals.{then-is_set+in_ok-push, else-is_set}
use Rattle.weedle_refusal.proofs.diagnose.noted.Furthest.rules.Goals as goal

pub loop-number-preserved : goal.loop-number-preserved
loop-number-preserved c = elim c.if-is_set.branch [
  | then-is_set+in_ok-push w ↦ rw w.found-is (lists_pushed c.loop-number.found.items w.push.new.self.items c.loop-number.number w.rule_of.result (IsSet c.args.self.now.marks) w.in_ok-push.ensures.items w.rule_of.ensures c.loop-number.invariant (rw w.rule_of.ensures (c.is_set.ensures.0 w.if-is_set.true)))
  | else-is_set w ↦ rw w.found-is (lists_skipped c.loop-number.found.items c.loop-number.found.items c.loop-number.number c.loop-number.number (IsSet c.args.self.now.marks) refl refl c.loop-number.invariant (λ u. let y : c.is_set.result ≡ true = c.is_set.ensures.1 u in let n = w.if-is_set.false in cc))
]

pub returns-clause-exact : goal.returns-clause-exact
returns-clause-exact c = lists_whole c.loop-number.found.items c.loop-number.number rule_count (IsSet c.args.self.now.marks) (omega arith) c.loop-number.invariant

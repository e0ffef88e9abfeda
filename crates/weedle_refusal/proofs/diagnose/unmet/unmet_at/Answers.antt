use Rattle.std.proofs.Common.{◌≡◌, true, refl, rules, arith}
use Rattle.weedle_grammar.specs.written.Bound.{table_count}
use Rattle.weedle_starts.specs.Tries.{IsUnmet}
use Rattle.weedle_refusal.proofs.ListingFacts.{lists_none, lists_same, lists_pushed, lists_skipped, lists_whole}
use Rattle.weedle_refusal.proofs.diagnose.unmet.unmet_at.Goals.{then-is_unmet+in_ok-push, else-is_unmet}
use Rattle.weedle_refusal.proofs.diagnose.unmet.unmet_at.Goals as goal

pub loop-number-init : goal.loop-number-init
loop-number-init c = lists_same _ _ 0 (λ r. IsUnmet c.args.ends.now.text c.args.start r c.args.place) c.new-found.ensures.items (lists_none (λ r. IsUnmet c.args.ends.now.text c.args.start r c.args.place))

pub is_unmet-requires-clause-here : goal.is_unmet-requires-clause-here
is_unmet-requires-clause-here c = c.requires.inside c.rule_of-rule.result (search rules)

pub loop-number-preserved : goal.loop-number-preserved
loop-number-preserved c = elim c.if-is_unmet.branch [
  | then-is_unmet+in_ok-push w ↦ rw w.found-is (lists_pushed c.loop-number.found.items w.push.new.self.items c.loop-number.number c.rule_of-rule.result (λ r. IsUnmet c.args.ends.now.text c.args.start r c.args.place) w.in_ok-push.ensures.items c.rule_of-rule.ensures c.loop-number.invariant (c.is_unmet.ensures.0 w.if-is_unmet.true))
  | else-is_unmet w ↦ rw w.found-is (lists_skipped c.loop-number.found.items c.loop-number.found.items c.loop-number.number c.rule_of-rule.result (λ r. IsUnmet c.args.ends.now.text c.args.start r c.args.place) refl c.rule_of-rule.ensures c.loop-number.invariant (λ u. let y : c.is_unmet.result ≡ true = c.is_unmet.ensures.1 u in let n = w.if-is_unmet.false in cc))
]

pub returns-clause-exact : goal.returns-clause-exact
returns-clause-exact c = lists_whole c.loop-number.found.items c.loop-number.number table_count (λ r. IsUnmet c.args.ends.now.text c.args.start r c.args.place) (omega arith) c.loop-number.invariant

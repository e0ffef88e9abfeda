use Rattle.std.proofs.Common.{inl, inr}
use Rattle.weedle_rules.proofs.OutcomeFacts.{not_both}
use Rattle.weedle_recovery.proofs.stops.member_starts.Goals as goal

pub returns-clause-yes : goal.returns-clause-yes
returns-clause-yes c = λ t. inr (c.in_ok-is.ensures.yes t)

pub returns-clause-no : goal.returns-clause-no
returns-clause-no c = λ t h. elim h [
  | inl r ↦ not_both (c.in_ok-reads.ensures.no c.if-branch.false) r.1
  | inr b ↦ c.in_ok-is.ensures.no t b
]

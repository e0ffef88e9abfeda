use Rattle.weedle_memo.proofs.rule_memo.RuleMemo.new.Goals as goal

pub invariant_of-result : goal.invariant_of-result
invariant_of-result c = record { ends = c.in_ok-end.ensures.ends; first = c.in_ok-end.ensures.met; closed = c.in_ok-end.ensures.closed }

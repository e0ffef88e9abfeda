use Rattle.weedle_memo.proofs.MemoFacts.{asked_right}
use Rattle.weedle_memo.proofs.rule_memo.RuleMemo.end.Goals as goal

pub returns : goal.returns
returns c =
    let within = rw (← c.self.view_is) at c.requires.within in
    let wanted = rw (← c.self.view_is) at c.requires.wanted in
    record { right = rw (← c.self.view_is) (asked_right c.self.inside.reader c.self.inside.end c.args.rule c.args.place c.asked.result c.self.invariant wanted (c.one_outcome.ensures c.self.inside.reader.text c.args.rule c.args.place within) c.asked.ensures) }

use Rattle.weedle_memo.proofs.MemoFacts.{wanted_right}
use Rattle.weedle_memo.proofs.memo.Memo.end.Goals as goal

pub returns : goal.returns
returns c =
    let within = rw (← c.self.view_is) at c.requires.within in
    let wanted = rw (← c.self.view_is) at c.requires.wanted in
    record { right = rw (← c.self.view_is) (wanted_right c.self.inside.table c.self.inside.end c.self.invariant c.args.rule c.args.place c.asked.result wanted (c.one_outcome.ensures c.self.inside.table.text c.args.rule c.args.place within) c.asked.ensures) }

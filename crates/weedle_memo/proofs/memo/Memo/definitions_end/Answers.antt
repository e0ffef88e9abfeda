use Rattle.weedle_memo.proofs.MemoFacts.{definitions_end}
use Rattle.weedle_memo.proofs.memo.Memo.definitions_end.Goals as goal

pub returns : goal.returns
returns c = rw (← c.self.view_is) (definitions_end c.self.inside.table c.self.inside.end c.self.invariant)

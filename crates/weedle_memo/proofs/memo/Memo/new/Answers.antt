use Rattle.std.proofs.Common.{◌∙◌}
use Rattle.weedle_memo.proofs.memo.Memo.new.Goals as goal

pub invariant_of-result : goal.invariant_of-result
invariant_of-result c = rw c.into_table.ensures (record {
  is_memo = record { ends = c.in_ok-end.ensures.ends; first = c.in_ok-end.ensures.met; closed = c.in_ok-end.ensures.closed };
  start_is = c.read.ensures.same.2 ∙ c.in_ok-reader.ensures.start_is;
})

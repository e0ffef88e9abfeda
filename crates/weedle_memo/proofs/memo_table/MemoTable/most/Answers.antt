use Rattle.std.proofs.Common.{arith, subst, sym, ◌≤◌}
use Rattle.weedle_rules.specs.written.Bound.{most_reads}
use Rattle.weedle_memo.proofs.KnownFacts.{most_few}
use Rattle.weedle_memo.proofs.memo_table.MemoTable.most.Goals as goal

pub returns-clause-few : goal.returns-clause-few
returns-clause-few c = subst (λ z. z ≤ most_reads) (sym c.self.invariant.reader.counted.most_is) (most_few most_reads c.self.invariant.reader.counts 0 (omega arith) c.self.invariant.reader.counted.each)

use Rattle.std.proofs.Common.{arith, length, map}
use Rattle.std.proofs.lemmas.List.{length-map}
use Rattle.weedle_rules.proofs.CountFacts.{bounded, looked}
use Rattle.weedle_memo.specs.ReaderView.{entry_of}
use Rattle.weedle_memo.proofs.memo_table.MemoTable.reads.Goals as goal

pub returns-clause-each : goal.returns-clause-each
returns-clause-each c = let b = looked c.self.invariant.reader.counted in let l = length-map c.self.inside.entries entry_of in rw (← c.self.view_is) (omega (arith, b, l))

pub returns-clause-few : goal.returns-clause-few
returns-clause-few c = let b = bounded c.self.invariant.reader.counted in let l = length-map c.self.inside.entries entry_of in rw (← c.self.view_is) (omega (arith, b, l))

use Rattle.std.proofs.Common.{arith, length, map}
use Rattle.std.proofs.lemmas.List.{length-map}
use Rattle.weedle_grammar.specs.written.Table.Definitions.{DEFINITIONS}
use Rattle.weedle_memo.specs.ReaderView.{entry_of}
use Rattle.weedle_memo.proofs.KnownFacts.{few_own}
use Rattle.weedle_memo.proofs.memo_table.MemoTable.workings.Goals as goal

pub returns-clause-few : goal.returns-clause-few
returns-clause-few c =
    let few = few_own c.self.inside.text.now DEFINITIONS _ c.self.invariant.reader.right c.self.invariant.reader.own c.self.invariant.reader.apart (omega arith) in
    let l = length-map c.self.inside.entries entry_of in
    rw (c.len.ensures, ← c.self.view_is) (omega (arith, few, l))

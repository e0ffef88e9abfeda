use Rattle.std.proofs.Common.{arith, rules, length, map}
use Rattle.std.proofs.lemmas.List.{length-map}
use Rattle.weedle_rules.proofs.CountFacts.{bounded}
use Rattle.weedle_memo.specs.ReaderView.{entry_of}
use Rattle.weedle_memo.proofs.KnownFacts.{few_known, few_own}
use Rattle.weedle_memo.proofs.reader.Reader.recall.Goals as goal

pub returns-clause-few : goal.returns-clause-few
returns-clause-few c = rw (← c.self.view_is) (few_known c.self.inside.text.now _ c.self.invariant.right c.self.invariant.apart)

pub returns-clause-few_own : goal.returns-clause-few_own
returns-clause-few_own c = rw (← c.self.view_is) (few_own c.self.inside.text.now c.self.inside.rule _ c.self.invariant.right c.self.invariant.own c.self.invariant.apart)

pub returns-clause-bounded : goal.returns-clause-bounded
returns-clause-bounded c = let b = bounded c.self.invariant.counted in let l = length-map c.self.inside.entries entry_of in rw (← c.self.view_is) (omega (arith, b, l))

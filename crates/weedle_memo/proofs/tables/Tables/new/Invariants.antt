use Rattle.weedle_memo.proofs.TableFacts.{AreLaid}
use Rattle.weedle_memo.proofs.tables.Tables.new.Given as goal

abbrev pub invariant-loop-number : goal.invariant-loop-number
invariant-loop-number l = AreLaid l.ways l.words l.number

use Rattle.weedle_rules.proofs.OutcomeFacts.{it_ends}
use Rattle.weedle_syntax.proofs.MemoFacts.{ends_over}
use Rattle.weedle_syntax.proofs.readers.rule_of_table.Goals as goal

pub laid_from-requires-clause-reads : goal.laid_from-requires-clause-reads
laid_from-requires-clause-reads c = ends_over c.of_ends.ensures (it_ends c.in-Some.ensures.right)

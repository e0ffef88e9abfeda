use Rattle.weedle_rules.proofs.OutcomeFacts.{it_ends}
use Rattle.weedle_syntax.proofs.MemoFacts.{memo_end, ends_over}
use Rattle.weedle_syntax.proofs.on_demand.lay_on_demand.Goals as goal

pub laid_from-requires-clause-reads : goal.laid_from-requires-clause-reads
laid_from-requires-clause-reads c = ends_over c.of_memo.ensures (it_ends (memo_end c.in_ok-memo.ensures.text c.in_ok-memo.ensures.start c.in-Some.ensures))

use Rattle.weedle_syntax.proofs.FrontFacts.{never_fails}
use Rattle.weedle_rules.proofs.OutcomeFacts.{it_ends}
use Rattle.weedle_syntax.proofs.MemoFacts.{ends_over}
use Rattle.weedle_syntax.proofs.readers.front_of.Goals as goal

pub laid_from-requires-clause-reads : goal.laid_from-requires-clause-reads
laid_from-requires-clause-reads c = ends_over c.of_ends.ensures (it_ends c.in-Some.ensures.right)

pub unreachable-requires : goal.unreachable-requires
unreachable-requires c = never_fails c.args.ends.now.text 0 c.in-None.ensures.right

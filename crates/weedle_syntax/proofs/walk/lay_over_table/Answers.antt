use Rattle.std.proofs.Common.{sym, subst}
use Rattle.weedle_rules.specs.Outcomes.{EndsAt}
use Rattle.weedle_rules.proofs.OutcomeFacts.{it_ends}
use Rattle.weedle_syntax.specs.Table.{TableView}
use Rattle.weedle_syntax.proofs.walk.lay_over_table.Goals as goal

pub laid_from-requires-clause-reads : goal.laid_from-requires-clause-reads
laid_from-requires-clause-reads c = subst (λ (t : TableView). EndsAt t.text t.start.rule t.start.place c.in-Some.end) (sym c.of_ends.ensures) (it_ends c.in-Some.ensures.right)

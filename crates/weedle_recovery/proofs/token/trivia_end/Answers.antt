use Rattle.std.proofs.Common.{subst}
use Rattle.weedle_grammar.specs.written.Table.Trivia.{TRIVIA}
use Rattle.weedle_rules.specs.Cells.{HasEnd}
use Rattle.weedle_recovery.proofs.TokenFacts.{trivia_never_fails}
use Rattle.weedle_recovery.proofs.token.trivia_end.Goals as goal

pub unreachable-requires : goal.unreachable-requires
unreachable-requires c = trivia_never_fails c.args.text.now.text c.args.place (subst (HasEnd c.args.text.now.text TRIVIA c.args.place) c.in-None.is c.in_ok-end.ensures.end)

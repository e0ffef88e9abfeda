use Rattle.std.proofs.Common.{◌∙◌}
use Rattle.weedle_recovery.proofs.TokenFacts.{string_ends}
use Rattle.weedle_recovery.proofs.token.string_end.Goals as goal

pub returns-clause-value : goal.returns-clause-value
returns-clause-value c =
    c.closed_at-end.ensures.value ∙ string_ends c.args.text.now.text c.args.place c.behind-inside.result c.end_of_run-quote.result c.behind-inside.ensures c.end_of_run-quote.ensures.value

use Rattle.std.proofs.Common.{sym, ◌∙◌}
use Rattle.weedle_places.proofs.OwnFacts.{own_is, name_within}
use Rattle.weedle_places.proofs.own.name_span.Goals as goal

pub word_at-requires-clause-within : goal.word_at-requires-clause-within
word_at-requires-clause-within c = name_within c.args.syntax.now.nodes c.in-Some.name (own_is c.args.syntax.now.nodes c.args.syntax.now.dialect c.args.node c.in-Some.name (sym c.own_name.ensures ∙ c.in-Some.is))

pub word_at-requires-clause-name : goal.word_at-requires-clause-name
word_at-requires-clause-name c = own_is c.args.syntax.now.nodes c.args.syntax.now.dialect c.args.node c.in-Some.name (sym c.own_name.ensures ∙ c.in-Some.is)

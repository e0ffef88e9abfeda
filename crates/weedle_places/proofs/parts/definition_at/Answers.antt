use Rattle.std.proofs.Common.{sym, subst, ◌∙◌, ap}
use Rattle.weedle_syntax.specs.Dialects.{item_of}
use Rattle.weedle_places.specs.Placed.{FindsDefinition}
use Rattle.weedle_places.proofs.PieceFacts.{itself}
use Rattle.weedle_places.proofs.parts.definition_at.Goals as goal

pub returns-in-Weedle2 : goal.returns-in-Weedle2
returns-in-Weedle2 c =
    itself c.args.syntax.now.dialect c.args.syntax.now.text c.args.syntax.now.nodes c.args.piece (sym c.dialect.ensures ∙ c.in-Weedle2.is) c.requires.within c.requires.rule c.requires.reads

pub definition_in-requires-clause-rule : goal.definition_in-requires-clause-rule
definition_in-requires-clause-rule c = c.requires.rule ∙ ap item_of (sym c.dialect.ensures ∙ c.in-Today.is)

pub returns-in-Today : goal.returns-in-Today
returns-in-Today c =
    subst (λ d. FindsDefinition d c.args.syntax.now.text c.args.syntax.now.nodes c.args.piece c.definition_in.result) (sym (sym c.dialect.ensures ∙ c.in-Today.is)) c.definition_in.ensures

use Rattle.std.proofs.Common.{refl, sym, subst, ◌∙◌, ap}
use Rattle.weedle_syntax.specs.Dialects.{definition_of}
use Rattle.weedle_syntax.specs.Tree.{node_at}
use Rattle.weedle_places.specs.Members.{choice_of}
use Rattle.weedle_places.specs.Placed.{ChoiceBegins}
use Rattle.weedle_places.proofs.parts.choice_at.Goals as goal

pub returns-in-Weedle2-clause-rule : goal.returns-in-Weedle2-clause-rule
returns-in-Weedle2-clause-rule c =
    let is = sym c.dialect.ensures ∙ c.in-Weedle2.is in
    c.requires.rule ∙ ap definition_of is ∙ sym (ap choice_of is)

pub returns-in-Weedle2-clause-begins : goal.returns-in-Weedle2-clause-begins
returns-in-Weedle2-clause-begins c =
    let start = (node_at c.args.syntax.now.nodes c.args.definition).start in
    subst (λ d. ChoiceBegins d c.args.syntax.now.text start start) (sym (sym c.dialect.ensures ∙ c.in-Weedle2.is)) refl

pub kind_behind-requires-clause-rule : goal.kind_behind-requires-clause-rule
kind_behind-requires-clause-rule c = c.requires.rule ∙ ap definition_of (sym c.dialect.ensures ∙ c.in-Today.is)

pub returns-in-Today-clause-rule : goal.returns-in-Today-clause-rule
returns-in-Today-clause-rule c = c.kind_behind.ensures.rule ∙ sym (ap choice_of (sym c.dialect.ensures ∙ c.in-Today.is))

pub returns-in-Today-clause-begins : goal.returns-in-Today-clause-begins
returns-in-Today-clause-begins c =
    let ns = c.args.syntax.now.nodes in
    subst (λ d. ChoiceBegins d c.args.syntax.now.text (node_at ns c.args.definition).start (node_at ns c.kind_behind.result).start) (sym (sym c.dialect.ensures ∙ c.in-Today.is)) c.kind_behind.ensures.begins

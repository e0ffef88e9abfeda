use Rattle.std.proofs.Common.{◌≡◌, length, subst}
use Rattle.weedle_rules.specs.Outcomes.{EndsAt}
use Rattle.weedle_syntax.specs.Dialects.{definition_of, item_of}
use Rattle.weedle_recovery.proofs.DivisionFacts.{nothing_left}
use Rattle.weedle_recovery.proofs.pieces.is_whole_from.Goals as goal

pub returns-then-has_pieces-clause-yes : goal.returns-then-has_pieces-clause-yes
returns-then-has_pieces-clause-yes c = λ is.
    let reading = c.args.text.now in
    subst (λ r. EndsAt reading.text r c.args.place (length reading.text)) c.start.ensures (c.in_ok-ends.ensures.yes is)

pub returns-then-has_pieces-clause-no : goal.returns-then-has_pieces-clause-no
returns-then-has_pieces-clause-no c = λ is.
    let reading = c.args.text.now in
    subst (λ r. EndsAt reading.text r c.args.place (length reading.text) → ⊥) c.start.ensures (c.in_ok-ends.ensures.no is)

pub returns-clause-no : goal.returns-clause-no
returns-clause-no c = λ is ends.
    let reading = c.args.text.now in
    let same : item_of reading.dialect ≡ definition_of reading.dialect = subst (λ d. item_of d ≡ definition_of d) c.dialect.ensures (c.has_pieces.ensures c.if-has_pieces.false) in
    nothing_left reading.dialect reading.text c.args.place c.requires.unread ends same c.requires.fails

use Rattle.weedle_syntax.specs.Tree.{node_at}
use Rattle.weedle_places.specs.Members.{HasKindMembers, HasMembersIn, spans_of}
use Rattle.weedle_places.proofs.PartFacts.{if_ok_so, members_from}
use Rattle.weedle_places.proofs.members.members_at.Goals as goal

pub returns-clause-are : goal.returns-clause-are
returns-clause-are c =
    let ns = c.args.syntax.now.nodes in
    let text = c.args.syntax.now.text in
    let dialect = c.args.syntax.now.dialect in
    let choice = c.choice_at-choice.result in
    if_ok_so c.members_by_kind.result (λ ms. HasKindMembers dialect text (node_at ns choice).start (spans_of ms.items))
    (λ ms. HasMembersIn dialect text (node_at ns c.args.definition).start (spans_of ms.items))
    (λ ms h. members_from dialect text (node_at ns c.args.definition).start (node_at ns choice).start (spans_of ms.items) c.choice_at-choice.ensures.begins h)
    c.members_by_kind.ensures.are

use Rattle.std.proofs.Common.{◌≡◌, subst, ◌∙◌}
use Rattle.std.specs.Prelude.{All}
use Rattle.weedle_syntax.specs.Dialects.{IsFrontIn}
use Rattle.weedle_syntax.specs.Tree.{node_at}
use Rattle.weedle_places.specs.Items.{AreItems}
use Rattle.weedle_places.specs.Members.{spans_of}
use Rattle.weedle_places.specs.Standing.{IsMemberOfIn}
use Rattle.weedle_places.proofs.PartFacts.{listing_starts, list_within, list_more, list_ends}
use Rattle.weedle_places.proofs.members.listed.Goals as goal

pub loop-item-init : goal.loop-item-init
loop-item-init c =
    let ns = c.args.syntax.now.nodes in
    let front = subst (IsFrontIn c.args.syntax.now.dialect c.args.syntax.now.text) c.nodes.ensures.are c.nodes.ensures.front in
    listing_starts c.args.syntax.now.dialect c.args.syntax.now.text ns front c.args.list c.requires.within c.requires.many.0 c.new-members.result.items _ c.requires.many.1 c.new-members.ensures.items (c.into_iter-item-iterator.ensures.into_iter_gives ∙ c.children-item-items.ensures)

pub member_at-requires : goal.member_at-requires
member_at-requires c =
    let i = c.loop-item.invariant in
    list_within c.args.syntax.now.dialect c.args.syntax.now.text c.args.syntax.now.nodes i.0 _ _ _ _ _ _ _ c.in-Some.ensures.steps i.2

pub loop-item-preserved : goal.loop-item-preserved
loop-item-preserved c =
    let ns = c.args.syntax.now.nodes in
    let i = c.loop-item.invariant in
    (i.0, i.1, list_more c.args.syntax.now.dialect c.args.syntax.now.text ns i.0 _ _ _ _ _ _ _ _ _ c.in-Some.ensures.steps c.in_ok-push.ensures.items c.member_at.ensures i.2)

pub returns-clause-are : goal.returns-clause-are
returns-clause-are c =
    let ns = c.args.syntax.now.nodes in
    let i = c.loop-item.invariant in
    λ y is. (
    let same : i.0 ≡ y = cc in
    subst (λ z. AreItems c.args.syntax.now.text z (node_at ns c.args.list).start (spans_of c.loop-item.members.items)) same (list_ends c.args.syntax.now.dialect c.args.syntax.now.text ns i.0 _ _ _ _ _ c.in-None.ensures.steps.0 i.2))

pub returns-clause-each : goal.returns-clause-each
returns-clause-each c =
    let i = c.loop-item.invariant in
    λ y is. (
    let same : i.0 ≡ y = cc in
    subst (λ z. All (IsMemberOfIn c.args.syntax.now.dialect c.args.syntax.now.text c.args.syntax.now.nodes z) c.loop-item.members.items) same i.2.each)

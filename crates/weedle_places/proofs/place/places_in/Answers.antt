use Rattle.std.proofs.Common.{length, refl, subst, ◌∙◌, ap}
use Rattle.weedle_syntax.specs.Dialects.{IsFrontIn}
use Rattle.weedle_syntax.specs.Tree.{children_of}
use Rattle.weedle_places.proofs.PlaceFacts.{root_starts, place_within, place_rule, place_reads, place_more, place_ends}
use Rattle.weedle_places.proofs.place.places_in.Goals as goal

pub loop-piece-init : goal.loop-piece-init
loop-piece-init c =
    let ns = c.args.syntax.now.nodes in
    let front = subst (IsFrontIn c.args.syntax.now.dialect c.args.syntax.now.text) c.nodes.ensures.are c.nodes.ensures.front in
    root_starts c.args.syntax.now.dialect c.args.syntax.now.text ns c.new-found.result.items _ c.requires front c.new-found.ensures.items
    (c.into_iter-piece-iterator.ensures.into_iter_gives ∙ c.children-piece-items.ensures ∙ ap (children_of ns) c.root.ensures.first)

pub add_place-requires-clause-within : goal.add_place-requires-clause-within
add_place-requires-clause-within c =
    place_within c.args.syntax.now.dialect c.args.syntax.now.text c.args.syntax.now.nodes 1 (length c.args.syntax.now.text) c.loop-piece.found.items _ _ c.in-Some.piece c.in-Some.ensures.steps c.loop-piece.invariant

pub add_place-requires-clause-rule : goal.add_place-requires-clause-rule
add_place-requires-clause-rule c =
    place_rule c.args.syntax.now.dialect c.args.syntax.now.text c.args.syntax.now.nodes 1 (length c.args.syntax.now.text) c.loop-piece.found.items _ _ c.in-Some.piece c.in-Some.ensures.steps c.loop-piece.invariant

pub add_place-requires-clause-reads : goal.add_place-requires-clause-reads
add_place-requires-clause-reads c =
    place_reads c.args.syntax.now.dialect c.args.syntax.now.text c.args.syntax.now.nodes 1 (length c.args.syntax.now.text) c.loop-piece.found.items _ _ c.in-Some.piece c.in-Some.ensures.steps c.loop-piece.invariant

pub loop-piece-preserved : goal.loop-piece-preserved
loop-piece-preserved c =
    place_more c.args.syntax.now.dialect c.args.syntax.now.text c.args.syntax.now.nodes 1 (length c.args.syntax.now.text) c.loop-piece.found.items _ _ c.in-Some.piece c.in-Some.ensures.steps c.loop-piece.invariant
    c.add_place.new.found.items c.requires c.in_ok-add_place.ensures

pub returns : goal.returns
returns c =
    place_ends c.args.syntax.now.dialect c.args.syntax.now.text c.args.syntax.now.nodes 1 (length c.args.syntax.now.text) c.loop-piece.found.items _ c.in-None.ensures.steps.0 refl c.loop-piece.invariant

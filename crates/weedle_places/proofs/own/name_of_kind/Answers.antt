use Rattle.std.proofs.Common.{subst}
use Rattle.weedle_syntax.specs.Dialects.{IsFrontIn}
use Rattle.weedle_places.proofs.OwnFacts.{first_within}
use Rattle.weedle_places.proofs.own.name_of_kind.Goals as goal

pub name_among-requires : goal.name_among-requires
name_among-requires c =
    let front = subst (IsFrontIn c.args.syntax.now.dialect c.args.syntax.now.text) c.nodes.ensures.are c.nodes.ensures.front in
    first_within c.args.syntax.now.dialect c.args.syntax.now.text c.args.syntax.now.nodes front c.args.node c.requires _ _ c.in-Some.kind c.children-kinds.ensures c.in-Some.ensures.steps

use Rattle.std.proofs.Common.{[], subst}
use Rattle.weedle_syntax.specs.Dialects.{IsFrontIn}
use Rattle.weedle_syntax.specs.Tree.{children_of}
use Rattle.weedle_places.proofs.OwnFacts.{third_within, behind_none, behind_one, behind_two, behind_three}
use Rattle.weedle_places.proofs.own.name_behind.Goals as goal

pub returns-in_default : goal.returns-in_default
returns-in_default c = behind_none c.args.syntax.now.nodes (children_of c.args.syntax.now.nodes c.args.node) _ [] [] 0 0 c.children-parts.ensures c.in_default.ensures.steps.0

pub returns-in_default-next : goal.returns-in_default-next
returns-in_default-next c = behind_one c.args.syntax.now.nodes (children_of c.args.syntax.now.nodes c.args.node) _ _ [] _ 0 c.children-parts.ensures c.in-Some.ensures.steps c.in_default-next.ensures.steps.0

pub returns-in_default-next-2 : goal.returns-in_default-next-2
returns-in_default-next-2 c =
    behind_two c.args.syntax.now.nodes (children_of c.args.syntax.now.nodes c.args.node) _ _ _ _ _ c.children-parts.ensures c.in-Some.ensures.steps c.in-Some-next.ensures.steps c.in_default-next-2.ensures.steps.0

pub name_of_kind-requires : goal.name_of_kind-requires
name_of_kind-requires c =
    let front = subst (IsFrontIn c.args.syntax.now.dialect c.args.syntax.now.text) c.nodes.ensures.are c.nodes.ensures.front in
    third_within c.args.syntax.now.dialect c.args.syntax.now.text c.args.syntax.now.nodes front c.args.node c.requires _ _ _ _ _ _ c.in-Some-next-2.choice
    c.children-parts.ensures c.in-Some.ensures.steps c.in-Some-next.ensures.steps c.in-Some-next-2.ensures.steps

pub returns : goal.returns
returns c =
    behind_three c.args.syntax.now.nodes (children_of c.args.syntax.now.nodes c.args.node) _ _ _ _ _ c.children-parts.ensures _ c.in-Some-next-2.choice _
    c.in-Some.ensures.steps c.in-Some-next.ensures.steps c.in-Some-next-2.ensures.steps c.name_of_kind.ensures

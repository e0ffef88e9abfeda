use Rattle.std.proofs.Common.{length, sym, subst, ◌∙◌, ap}
use Rattle.weedle_syntax.specs.Dialects.{IsFrontIn}
use Rattle.weedle_places.specs.Around.{name_among}
use Rattle.weedle_places.proofs.NameFacts.{children_within}
use Rattle.weedle_places.proofs.NumberFacts.{AreBelow}
use Rattle.weedle_places.proofs.own.name_among.Goals as goal

pub loop-child-init : goal.loop-child-init
loop-child-init c =
    let ns = c.args.syntax.now.nodes in
    let front = subst (IsFrontIn c.args.syntax.now.dialect c.args.syntax.now.text) c.nodes-nodes.ensures.are c.nodes-nodes.ensures.front in
    let all = c.into_iter-child-iterator.ensures.into_iter_gives ∙ c.children-child-items.ensures in
    record {
      same = ap (name_among ns) all;
      below = subst (AreBelow (length ns)) (sym all) (children_within c.args.syntax.now.dialect c.args.syntax.now.text ns front c.args.node c.requires);
    }

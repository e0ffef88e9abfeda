use Rattle.std.proofs.Common.{sym, subst}
use Rattle.std.proofs.lemmas.List.Elements.{All-get_or}
use Rattle.weedle_syntax.specs.Syntax.{IsRead}
use Rattle.weedle_starts.proofs.ReadFacts.{ends_after}
use Rattle.weedle_syntax.proofs.tree.Syntax.text_of.Goals as goal

pub range-requires-clause-start_le_end : goal.range-requires-clause-start_le_end
range-requires-clause-start_le_end c =
    let here = rw (← c.self.view_is) at c.requires in
    let read = All-get_or (IsRead c.self.inside.text.now) c.self.inside.nodes.items c.args.node c.index-node.result.now here c.self.invariant.read in
    ends_after (subst (IsRead c.self.inside.text.now) (sym c.index-node.ensures) read).reads

use Rattle.std.proofs.Common.{arith}
use Rattle.weedle_syntax.proofs.BelowFacts.{below_within, count_read}
use Rattle.weedle_syntax.proofs.tree.Syntax.below.Goals as goal

pub returns-clause-within : goal.returns-clause-within
returns-clause-within c =
    let here = rw (← c.self.view_is) at c.requires in
    let count = count_read c.self.inside.nodes.items c.self.inside.below.items 0 c.args.node _ c.self.invariant.counted (omega arith) here c.index.ensures in
    let within = below_within c.self.inside.nodes.items c.args.node here in
    rw (← c.self.view_is) (omega arith)

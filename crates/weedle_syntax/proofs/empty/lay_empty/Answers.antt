use Rattle.std.proofs.Common.{arith}
use Rattle.weedle_syntax.proofs.EmptyFacts.{empty_end, empty_laid, empty_steps}
use Rattle.weedle_syntax.proofs.empty.lay_empty.Goals as goal

pub returns-clause-end : goal.returns-clause-end
returns-clause-end c = empty_end c.args.text.now c.args.place c.args.rule c.requires.without

pub returns-clause-lays : goal.returns-clause-lays
returns-clause-lays c = empty_laid c.args.text.now c.args.place c.args.rule c.requires.without c.args.depth c.args.nodes.now.items c.lay.new.nodes.items c.in_ok-lay.ensures.items

pub returns-clause-steps : goal.returns-clause-steps
returns-clause-steps c =
    let some = c.if-limits-eq0.false in
    empty_steps c.args.text.now c.args.place c.args.rule c.requires.without _ _ (omega (arith, some))

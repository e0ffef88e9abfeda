use Rattle.std.proofs.Common.{arith}
use Rattle.weedle_syntax.proofs.TriviaFacts.{trivia_end, trivia_laid, trivia_steps}
use Rattle.weedle_syntax.proofs.trivia.lay_blanks.Goals as goal

pub returns-clause-end : goal.returns-clause-end
returns-clause-end c = rw c.requires.is (trivia_end c.args.text.now c.args.place c.args.first c.args.end c.requires.within c.requires.blanks)

pub returns-clause-lays : goal.returns-clause-lays
returns-clause-lays c =
    let first = rw c.requires.is at c.in_ok-lay.ensures.items in
    rw c.requires.is
    (trivia_laid c.args.text.now c.args.place c.args.first c.args.end c.requires.within c.requires.blanks c.args.depth c.args.nodes.now.items c.lay.new.nodes.items c.lay-2.new.nodes.items c.lay-3.new.nodes.items c.lay-4.new.nodes.items c.lay-5.new.nodes.items first c.in_ok-lay-2.ensures.items c.in_ok-lay-3.ensures.items c.in_ok-lay-4.ensures.items c.in_ok-lay-5.ensures.items)

pub returns-clause-steps : goal.returns-clause-steps
returns-clause-steps c =
    let some = c.if-limits-lt5.false in
    rw c.requires.is (trivia_steps c.args.text.now c.args.place c.args.first c.args.end c.requires.within c.requires.blanks _ _ (omega (arith, some)))

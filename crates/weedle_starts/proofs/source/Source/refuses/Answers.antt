use Rattle.weedle_starts.proofs.StartFacts.{refused, tries_here}
use Rattle.weedle_starts.proofs.source.Source.refuses.Goals as goal

pub returns-then-first_set-byte-eq0-clause-end : goal.returns-then-first_set-byte-eq0-clause-end
returns-then-first_set-byte-eq0-clause-end c =
    rw (← c.self.view_is) (refused c.self.inside.text.now c.args.place c.if-place-self.false c.if-byte-ge128.false c.first_set.result c.if-first_set-byte-eq0.true c.first_set.ensures)

pub returns-then-first_set-byte-eq0-clause-here : goal.returns-then-first_set-byte-eq0-clause-here
returns-then-first_set-byte-eq0-clause-here c =
    rw (← c.self.view_is) (tries_here c.self.inside.text.now c.args.place c.if-place-self.false c.if-byte-ge128.false c.first_set.result c.if-first_set-byte-eq0.true c.first_set.ensures)

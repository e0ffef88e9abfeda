use Rattle.std.proofs.Common.{◌+◌}
use Rattle.weedle_rules.proofs.CountFacts.{looked, bounded}
use Rattle.weedle_rules.proofs.ReaderFacts.{reader_counts}
use Rattle.weedle_rules.proofs.reader.Reader.recall.Goals as goal

pub returns-clause-counted : goal.returns-clause-counted
returns-clause-counted g c =
    rw (← c.self.view_is) (reader_counts g.C.Cell.stands_for g.C.Cell.greatest c.self.inside.text.now c.self.inside.rows.items c.self.inside.rows.cap c.self.inside.before (c.self.inside.before + c.self.inside.filled) c.self.inside.reads c.self.inside.most c.self.inside.is_open c.self.invariant)

pub returns-clause-looked : goal.returns-clause-looked
returns-clause-looked g c = rw (← c.self.view_is) (looked c.self.invariant.counted)

pub returns-clause-bounded : goal.returns-clause-bounded
returns-clause-bounded g c = rw (← c.self.view_is) (bounded c.self.invariant.counted)

use Rattle.std.proofs.Common.{◌+◌}
use Rattle.weedle_rules.proofs.ReaderFacts.{reader_opens}
use Rattle.weedle_rules.proofs.reader.Reader.begin.Goals as goal

pub invariant_of-self : goal.invariant_of-self
invariant_of-self g c =
    let room = rw (← c.self.view_is) at c.requires.room in
    reader_opens g.C.Cell.stands_for g.C.Cell.greatest c.self.inside.text.now c.self.inside.rows.items c.self.inside.rows.cap c.self.inside.before (c.self.inside.before + c.self.inside.filled) c.self.inside.reads c.self.inside.most c.self.inside.is_open c.self.invariant room

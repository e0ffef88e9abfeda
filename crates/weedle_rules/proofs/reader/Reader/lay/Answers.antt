use Rattle.std.proofs.Common.{arith, ◌≡◌, ◌+◌, ◌∙◌, length, replicate, ap, ◌∷◌, [], ◌*◌}
use Rattle.std.proofs.lemmas.List.{length-append, length-replicate}
use Rattle.weedle_rules.proofs.CellRows.{cells_length}
use Rattle.weedle_rules.proofs.ReaderFacts.{reader_lays, lays_known}
use Rattle.weedle_rules.specs.ReaderView.{known_of}
use Rattle.weedle_grammar.specs.written.Bound.{table_count}
use Rattle.weedle_rules.proofs.reader.Reader.lay.Goals as goal

pub invariant_of-self : goal.invariant_of-self
invariant_of-self g c =
    let room = rw (← c.self.view_is) at c.requires.room in
    let full = rw (← c.self.view_is) at c.requires.full in
    rw (c.push_reserved.ensures.items, c.push_reserved.ensures.capacity) (reader_lays g.C.Cell.stands_for g.C.Cell.greatest c.self.inside.text.now c.self.inside.rows.items c.self.inside.rows.cap c.self.inside.before (c.self.inside.before + c.self.inside.filled) ((c.self.inside.before + c.self.inside.filled) + 0) c.self.inside.reads c.self.inside.most c.self.inside.is_open (replicate table_count c.pack.result) c.self.invariant (omega (arith, room)) (length-replicate table_count c.pack.result) full (omega arith))

pub returns : goal.returns
returns g c =
    let laid = c.self.invariant.laid in
    let same : (c.self.inside.before + c.self.inside.filled) + 0 ≡ (c.self.inside.before + c.self.inside.filled) = omega arith in
    let known = ap (λ z. known_of g.C.Cell.stands_for z c.push_reserved.new.self.items) same ∙ ap (known_of g.C.Cell.stands_for (c.self.inside.before + c.self.inside.filled)) c.push_reserved.ensures.items ∙ lays_known g.C.Cell.stands_for c.self.inside.rows.items (replicate table_count c.pack.result) (c.self.inside.before + c.self.inside.filled) (omega (arith, laid, cells_length c.self.inside.rows.items c.self.invariant.even)) in
    let more : length c.push_reserved.new.self.items ≡ length c.self.inside.rows.items + 1 = ap length c.push_reserved.ensures.items ∙ length-append c.self.inside.rows.items (replicate table_count c.pack.result ∷ []) in
    let all : length c.push_reserved.new.self.items * table_count ≡ length c.self.inside.rows.items * table_count + table_count = omega (arith, more) in
    rw (← c.self.view_is) (cc (known, all, same))

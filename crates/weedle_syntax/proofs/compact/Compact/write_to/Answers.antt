use Rattle.std.proofs.Common.{◌<◌, ◌∷◌, ◌≤◌, ◌+◌, ◌∙◌, All, false, length, length-set, map, get_or, sym, ap, subst, arith}
use Rattle.weedle_syntax.specs.Compact.{IsNarrow, IsWrittenAt, nodes_of, run_nodes}
use Rattle.weedle_syntax.proofs.CompactFacts.{run_length}
use Rattle.weedle_syntax.proofs.FillFacts.{AreWritten, of_one_item, run_has_room, run_written}
use Rattle.weedle_syntax.specs.declared.runs.Run.{Run}
use Rattle.weedle_syntax.proofs.compact.Compact.write_to.Goals as goal

-- what stands for a run where there is none
abbrev none : Run
none = record { base = 0; is_long = false; from = 0; many = 0 }

pub write_run-requires-clause-narrow : goal.write_run-requires-clause-narrow
write_run-requires-clause-narrow g c =
    let below = c.self.inside.below in
    let i = c.loop-run.run-index in
    let is = c.deref-run-items.ensures.value in
    let less = subst (λ rs. i < length rs) is c.loop-run-test.true in
    subst (λ rs. All IsNarrow (run_nodes below.shorts.items below.longs.items (get_or rs i none))) (sym is)
    (of_one_item (run_nodes below.shorts.items below.longs.items) below.runs.items IsNarrow i none less c.self.invariant.narrow)

pub write_run-requires-clause-room : goal.write_run-requires-clause-room
write_run-requires-clause-room g c =
    let below = c.self.inside.below in
    let i = c.loop-run.run-index in
    let is = c.deref-run-items.ensures.value in
    let less = subst (λ rs. i < length rs) is c.loop-run-test.true in
    let many = run_length below.shorts.items below.longs.items (get_or below.runs.items i none) (c.self.invariant.inside i none less) in
    let all : length (c.self.inside.root ∷ nodes_of below) ≤ length c.args.room.now =
    subst (λ ns. length ns ≤ length c.args.room.now) (sym c.self.view_is) c.requires in
    let has = run_has_room g.T.FromNode.of c.self.inside.root below.shorts.items below.longs.items below.runs.items c.args.room.now
    c.loop-run.room c.loop-run.at i none c.loop-run.invariant less all in
    let size = c.loop-run.auto.room ∙ length-set c.args.room.now 0 c.from_node.result in
    let same = ap (λ rs. (get_or rs i none).many) is in
    omega (arith, many, has, size, same)

pub loop-run-preserved : goal.loop-run-preserved
loop-run-preserved g c =
    let below = c.self.inside.below in
    let i = c.loop-run.run-index in
    let at = c.loop-run.at in
    let of = g.T.FromNode.of in
    let is = c.deref-run-items.ensures.value in
    let less = subst (λ rs. i < length rs) is c.loop-run-test.true in
    let many = run_length below.shorts.items below.longs.items (get_or below.runs.items i none) (c.self.invariant.inside i none less) in
    subst (λ rs. AreWritten of c.self.inside.root below.shorts.items below.longs.items below.runs.items c.args.room.now c.write_run.new.room (at + (get_or rs i none).many) (i + 1)) (sym is)
    (run_written of c.self.inside.root below.shorts.items below.longs.items below.runs.items c.args.room.now
    c.loop-run.room c.write_run.new.room at i (get_or below.runs.items i none).many none c.loop-run.invariant less
    (subst (λ rs. IsWrittenAt at (map of (run_nodes below.shorts.items below.longs.items (get_or rs i none))) c.loop-run.room c.write_run.new.room) is c.write_run.ensures)
    (sym many))

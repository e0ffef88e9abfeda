use Rattle.std.proofs.Common.{rules, arith, sym, ◌∙◌, ◌≡◌, ◌<◌, ◌-◌, length}
use Rattle.weedle_memo.proofs.ChainFacts.{found, not_found, chained}
use Rattle.weedle_memo.proofs.memo_table.MemoTable.find.Goals as goal

pub returns-then-number : goal.returns-then-number
returns-then-number c =
    let low : c.loop-at.at - 1 < length c.self.inside.entries = (let k = c.loop-at.invariant.0 in let t = c.loop-at-test.true in omega arith) in
    rw (← c.self.view_is) (found c.self.inside.text.now c.self.inside.entries (c.loop-at.at - 1) c.get-entry.result c.args.rule c.args.place c.self.invariant.reader.right low c.get-entry.ensures (sym c.number.ensures.0 ∙ c.if-number.true ∙ c.number-then-entry-place.ensures.0) c.if-entry-place.true)

pub loop-at-preserved-then-entry-at : goal.loop-at-preserved-then-entry-at
loop-at-preserved-then-entry-at c =
    let t = c.loop-at-test.true in
    let k = c.loop-at.invariant.0 in
    let low : c.loop-at.at - 1 < length c.self.inside.entries = omega arith in
    let n = c.if-entry-at.true in
    (omega arith, chained c.self.inside.heads.items c.self.inside.entries c.args.rule c.args.place (c.loop-at.at - 1) c.get-entry.result c.self.invariant.reader.linked low c.get-entry.ensures c.if-entry-place.true (λ e. c.if-number.false (c.number.ensures.0 ∙ e ∙ sym c.number-then-entry-place.ensures.0)) (λ i f l er fp. let z = c.loop-at.invariant.1 i f l er fp in omega arith))

pub returns : goal.returns
returns c = rw (← c.self.view_is) (not_found c.self.inside.entries c.args.rule c.args.place (λ i e l er ep. let k = c.loop-at.invariant.1 i e l er ep in let z = c.loop-at-test.false in omega arith))

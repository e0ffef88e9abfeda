use Rattle.std.proofs.Common.{◌≤◌, ◌<◌, subst, arith}
use Rattle.std.proofs.lemmas.List.{get_or_read}
use Rattle.weedle_refusal.proofs.LineFacts.{Halving, halving_starts, halve_up, halve_down, feeds_few}
use Rattle.weedle_refusal.proofs.lines.Lines.feeds_before.Goals as goal

pub loop-low-init : goal.loop-low-init
loop-low-init c =
    let l = rw (← c.self.view_is) at c.requires in
    let many = c.self.inside.starts.ok.0 in
    subst (Halving c.self.inside.text.now c.self.inside.starts.items c.args.place 0) (omega (arith, c.len-high.ensures))
    (halving_starts c.self.inside.text.now c.self.inside.starts.items c.self.invariant c.args.place l)

pub index-requires : goal.index-requires
index-requires c =
    let many = c.self.inside.starts.ok.0 in
    let within = c.loop-low.invariant.within in
    omega (arith, c.loop-low-test.true)

pub loop-low-preserved-then-index-place : goal.loop-low-preserved-then-index-place
loop-low-preserved-then-index-place c =
    let within = c.loop-low.invariant.within in
    let start = get_or_read c.self.inside.starts.items _ _ (omega (arith, c.loop-low-test.true)) c.index.ensures 0 in
    halve_up c.self.inside.text.now c.self.inside.starts.items c.self.invariant c.args.place c.loop-low.low c.loop-low.high _ c.loop-low.invariant
    (omega (arith, c.loop-low-test.true)) (subst (λ z. z ≤ c.args.place) start c.if-index-place.true)

pub loop-low-preserved : goal.loop-low-preserved
loop-low-preserved c =
    let within = c.loop-low.invariant.within in
    let start = get_or_read c.self.inside.starts.items _ _ (omega (arith, c.loop-low-test.true)) c.index.ensures 0 in
    halve_down c.self.inside.text.now c.self.inside.starts.items c.self.invariant c.args.place c.loop-low.low c.loop-low.high _ c.loop-low.invariant
    (omega (arith, c.loop-low-test.true)) (subst (λ z. c.args.place < z) start c.if-index-place.false)

pub returns-clause-value : goal.returns-clause-value
returns-clause-value c =
    let some = c.loop-low.invariant.some in
    let few = c.loop-low.invariant.few in
    rw (← c.self.view_is) (omega (arith, c.loop-low-test.false))

pub returns-clause-few : goal.returns-clause-few
returns-clause-few c =
    let l = rw (← c.self.view_is) at c.requires in
    let some = c.loop-low.invariant.some in
    omega (arith, feeds_few c.self.inside.text.now c.args.place l)

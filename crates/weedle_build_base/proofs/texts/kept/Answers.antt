use Rattle.std.proofs.Common.{sym, arith, subst, ◌-◌, ◌≡◌, ◌+◌, suc}
use Rattle.weedle_grammar.specs.Meaning.{between}
use Rattle.weedle_build_base.proofs.Keeping.{Keeping, keeping_start, keeping_next, keeping_end, part_is_there, part_due, stop_boundary, stop_after}
use Rattle.weedle_build_base.proofs.Finding.{visited}
use Rattle.weedle_build_base.proofs.texts.kept.Goals as goal

pub loop-inner-init : goal.loop-inner-init
loop-inner-init c =
    let e : c.args.k ≡ c.args.k - 0 = omega arith in
    (omega arith, subst (λ j. Keeping c.args.table.text.now c.args.rule c.args.at.place 0 j c.args.at.place) e (keeping_start c.requires.due c.requires.shape))

pub unreachable-requires : goal.unreachable-requires
unreachable-requires c = part_is_there c.loop-inner.invariant.1 (sym c.in_default.ensures.found)

pub end_at-stop-requires : goal.end_at-stop-requires
end_at-stop-requires c = part_due c.loop-inner.invariant.1 (sym c.in-Some.ensures.found)

pub range-requires-clause-start_le_end : goal.range-requires-clause-start_le_end
range-requires-clause-start_le_end c = stop_after c.loop-inner.invariant.1 (sym c.in-Some.ensures.found) c.end_at-stop.ensures

pub range-requires-clause-end_boundary : goal.range-requires-clause-end_boundary
range-requires-clause-end_boundary c = stop_boundary c.loop-inner.invariant.1 (sym c.in-Some.ensures.found) c.end_at-stop.ensures

pub returns-then-i-k : goal.returns-then-i-k
returns-then-i-k c =
    let e : c.args.k - c.loop-inner.i ≡ 0 = omega arith in
    let b : c.range.result.now ≡ between c.args.table.text.now c.loop-inner.start c.end_at-stop.result = c.range.ensures.value in
    visited (keeping_end c.loop-inner.invariant.1 (sym c.in-Some.ensures.found) c.end_at-stop.ensures e c.end_at-end.ensures b c.visit.ensures.counts) c.visit.ensures

pub loop-inner-preserved : goal.loop-inner-preserved
loop-inner-preserved c =
    let e : c.args.k - c.loop-inner.i ≡ suc (c.args.k - (c.loop-inner.i + 1)) = omega (arith, c.loop-inner.invariant.0) in
    (omega (arith, c.loop-inner.invariant.0), keeping_next c.loop-inner.invariant.1 (sym c.in-Some.ensures.found) c.end_at-stop.ensures e)

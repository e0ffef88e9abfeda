use Rattle.std.proofs.Common.{◌≡◌, ◌+◌, ◌-◌, ◌/◌, subst, sym, arith, ap}
use Rattle.weedle_grammar.specs.written.Bound.{table_count}
use Rattle.weedle_starts.specs.Tries.{Tries}
use Rattle.weedle_refusal.specs.Marks.{Adds}
use Rattle.weedle_refusal.proofs.MarkingFacts.{step_at, marking_skip}
use Rattle.weedle_refusal.proofs.diagnose.marking.close_cell.Goals as goal

pub returns-then-row-last : goal.returns-then-row-last
returns-then-row-last c = step_at c.args.ends.now.text c.args.start c.args.marks.now c.mark_tries.new.marks c.args.last c.args.cell c.requires.last c.requires.before c.requires.within c.if-row-last.true c.requires.marked
    (subst (λ r. Adds c.args.last c.args.marks.now c.mark_tries.new.marks (Tries c.args.ends.now.text r (c.args.last - c.args.cell / table_count))) c.rule_of-rule.ensures c.mark_tries.ensures)

pub returns-else-row-last : goal.returns-else-row-last
returns-else-row-last c = marking_skip c.args.ends.now.text c.args.start c.args.marks.now (c.args.cell + 1) c.args.cell c.requires.before (λ other a b n s. (
    let e : other ≡ c.args.cell = omega arith in
    let m : c.args.cell / table_count ≡ other / table_count = ap (λ z. z / table_count) (sym e) in
    let f = c.if-row-last.false in
    absurd (omega arith)))

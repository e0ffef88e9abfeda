use Rattle.std.proofs.Common.{◌∙◌, arith, length-set, subst}
use Rattle.weedle_grammar.specs.written.Table.{row_of}
use Rattle.weedle_refusal.specs.Ways.{IsWay}
use Rattle.weedle_refusal.proofs.WayFacts.{one_way_more}
use Rattle.weedle_refusal.proofs.diagnose.ways.lay_ways.Goals as goal

pub loop-number-preserved : goal.loop-number-preserved
loop-number-preserved c =
    let l = c.loop-number.invariant in (
      length-set c.loop-number.ways c.loop-number.number c.way_of.result ∙ l.0,
      one_way_more c.loop-number.ways c.loop-number.number c.way_of.result (omega (arith, l.0))
          (subst (λ n. IsWay c.way_of.result (row_of n)) c.rule_of.ensures c.way_of.ensures) l.1,
    )

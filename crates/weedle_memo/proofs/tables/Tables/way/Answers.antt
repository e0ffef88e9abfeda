use Rattle.std.proofs.Common.{rules, subst, sym, ◌<◌}
use Rattle.weedle_grammar.specs.written.Table.{row_of}
use Rattle.weedle_grammar.specs.written.Bound.{rule_count}
use Rattle.weedle_memo.specs.Tables.{IsWay}
use Rattle.weedle_memo.proofs.tables.Tables.way.Goals as goal

pub returns : goal.returns
returns c =
    let low : c.args.rule < rule_count = (search rules) in
    subst (λ w. IsWay w (row_of c.args.rule)) (sym c.way_in.ensures) ((c.self.invariant c.args.rule low).0 c.way_in.result)

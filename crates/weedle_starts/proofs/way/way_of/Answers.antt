use Rattle.std.proofs.Common.{◌<◌, sym, subst, get_or}
use Rattle.weedle_grammar.specs.written.Bound.{rule_count}
use Rattle.weedle_grammar.specs.written.Table.{row_of}
use Rattle.weedle_starts.specs.Ways.{IsWay}
use Rattle.weedle_starts.specs.declared.written.ways.TheConstants.{WAYS}
use Rattle.weedle_starts.proofs.WayFacts.{ways_are}
use Rattle.weedle_starts.proofs.way.way_of.Goals as goal

pub returns : goal.returns
returns c =
    let number = c.number.ensures in
    subst (λ r. IsWay (get_or WAYS c.number.result _) (row_of r)) number.0 (ways_are c.number.result number.1 _)

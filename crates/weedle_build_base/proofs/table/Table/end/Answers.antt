use Rattle.weedle_memo.proofs.WantedFacts.{definitions_low}
use Rattle.weedle_build_base.proofs.table.Table.end.Goals as goal

pub cell-requires-clause-low : goal.cell-requires-clause-low
cell-requires-clause-low c = definitions_low c.requires.wanted

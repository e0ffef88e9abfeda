use Rattle.weedle_syntax.specs.Table.{IsKnown}
use Rattle.weedle_syntax.specs.declared.table.Known.TheVariants.{Filled}
use Rattle.weedle_memo.proofs.WantedFacts.{wanted_low}
use Rattle.weedle_syntax.proofs.table.Table.end.Goals as goal

-- what is wanted of a rule of the table is of the table
pub cell-requires-clause-low : goal.cell-requires-clause-low
cell-requires-clause-low c =
    let known : IsKnown c.self.inside.text.now c.self.inside.rule c.self.inside.place (Filled c.in-Filled.ends) = rw c.in-Filled.is at c.self.invariant in
    wanted_low known.1 (rw (← c.self.view_is) at c.requires.wanted)

use Rattle.std.proofs.Common.{arith, rules}
use Rattle.weedle_grammar.specs.written.Table.{webidl}
use Rattle.weedle_grammar.proofs.Takes.{takes}
use Rattle.weedle_grammar.proofs.Checked.{ranked}
use Rattle.weedle_rules.proofs.PartEnds.{opt_low}
use Rattle.weedle_rules.proofs.RowEnds.{opt_present, opt_absent}
use Rattle.weedle_rules.proofs.Looks.{looked, worked, known_here}
use Rattle.weedle_rules.proofs.TableRows.{opt_part}
use Rattle.weedle_rules.proofs.work.items.opt.Goals as goal

pub cell-requires-clause-known : goal.cell-requires-clause-known
cell-requires-clause-known g c = known_here c.requires.begun (opt_part c.requires.begun.low c.requires.row) (opt_low webidl c.args.reader.now.text takes ranked _ _ c.requires.row)

pub returns-in-Some : goal.returns-in-Some
returns-in-Some g c = worked c.requires.begun c.requires.row (looked _ c.cell.ensures.counted) (omega arith) (opt_present webidl c.args.reader.now.text _ _ _ c.in-Some.ensures.right)

pub returns-in-None : goal.returns-in-None
returns-in-None g c = worked c.requires.begun c.requires.row (looked _ c.cell.ensures.counted) (omega arith) (opt_absent webidl c.args.reader.now.text _ _ c.in-None.ensures.right)

pub cell-requires-clause-low : goal.cell-requires-clause-low
cell-requires-clause-low g c = opt_part c.requires.begun.low c.requires.row

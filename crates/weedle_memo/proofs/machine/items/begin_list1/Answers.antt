use Rattle.std.proofs.Common.{rules}
use Rattle.weedle_memo.proofs.BeginFacts.{list1_begins}
use Rattle.weedle_memo.proofs.CoveredFacts.{list1_begin_covered}
use Rattle.weedle_memo.specs.Closure.{memory_of}
use Rattle.weedle_memo.proofs.machine.items.begin_list1.Goals as goal

pub returns-clause-turn : goal.returns-clause-turn
returns-clause-turn c = list1_begins c.requires.fresh c.requires.row (search rules)

pub returns-clause-covered : goal.returns-clause-covered
returns-clause-covered c = list1_begin_covered (memory_of c.args.reader.now) _ c.requires.fresh c.requires.row

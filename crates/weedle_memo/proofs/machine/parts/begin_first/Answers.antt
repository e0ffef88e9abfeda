use Rattle.weedle_memo.proofs.BeginFacts.{first_some, first_begins}
use Rattle.weedle_memo.proofs.CoveredFacts.{first_begin_covered}
use Rattle.weedle_memo.specs.Closure.{memory_of}
use Rattle.weedle_memo.proofs.machine.parts.begin_first.Goals as goal

pub rule-requires : goal.rule-requires
rule-requires c = first_some c.requires.fresh c.requires.row

pub returns-clause-turn : goal.returns-clause-turn
returns-clause-turn c = first_begins c.requires.fresh c.requires.row c.rule.ensures.value c.rule.ensures.low

pub returns-clause-covered : goal.returns-clause-covered
returns-clause-covered c = first_begin_covered (memory_of c.args.reader.now) _ c.requires.fresh c.requires.row

use Rattle.weedle_memo.proofs.BeginFacts.{if_some, if_begins}
use Rattle.weedle_memo.proofs.CoveredFacts.{if_begin_covered}
use Rattle.weedle_memo.specs.Closure.{memory_of}
use Rattle.weedle_memo.proofs.machine.parts.begin_if.Goals as goal

pub rule-requires : goal.rule-requires
rule-requires c = if_some c.requires.fresh c.requires.row

pub returns-clause-turn : goal.returns-clause-turn
returns-clause-turn c = if_begins c.requires.fresh c.requires.row c.rule.ensures.value c.rule.ensures.low

pub returns-clause-covered : goal.returns-clause-covered
returns-clause-covered c = if_begin_covered (memory_of c.args.reader.now) c.requires.fresh c.requires.row

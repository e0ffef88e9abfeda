use Rattle.weedle_memo.specs.Closure.{memory_of, IsWorked}
use Rattle.weedle_memo.proofs.StepFacts.{all_closed_on, none_closed}
use Rattle.weedle_memo.proofs.OwnFacts.{first_own}
use Rattle.weedle_memo.proofs.read.read.Goals as goal

pub returns-in-Known-clause-closed : goal.returns-in-Known-clause-closed
returns-in-Known-clause-closed c =
    let worked : IsWorked (memory_of c.args.reader.now) (memory_of c.work.new.reader) c.rule-rule.result c.place-place.result c.in-Known.end = rw c.in-Known.is at c.in_ok-end.ensures.leaf in
    all_closed_on {m = memory_of c.args.reader.now} {n = memory_of c.work.new.reader} worked.extends (none_closed c.args.reader.now.text (memory_of c.args.reader.now) c.requires.unread)

pub work-requires-clause-own : goal.work-requires-clause-own
work-requires-clause-own c = first_own c.rule-rule.ensures

use Rattle.std.proofs.Common.{ap}
use Rattle.weedle_memo.specs.Closure.{memory_of}
use Rattle.weedle_memo.proofs.GrowthFacts.{worked_before, worked_one}
use Rattle.weedle_memo.proofs.leaves.fill_in.Goals as goal

pub returns-in-Known-clause-worked : goal.returns-in-Known-clause-worked
returns-in-Known-clause-worked c = worked_before (memory_of c.args.reader.now) c.args.rule c.args.place c.args.outcome c.in-Known.field-0 c.requires.right c.in-Known.ensures.look c.in-Known.ensures.met

pub returns-in_ok-keep-in-Unknown-clause-worked : goal.returns-in_ok-keep-in-Unknown-clause-worked
returns-in_ok-keep-in-Unknown-clause-worked c = worked_one (memory_of c.args.reader.now) (memory_of c.keep.new.self) c.args.rule c.args.place c.args.outcome (ap memory_of c.in_ok-keep-in-Unknown.ensures.kept) c.requires.leaf c.requires.right

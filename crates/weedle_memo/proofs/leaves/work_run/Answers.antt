use Rattle.std.proofs.Common.{refl, sym, ◌≤◌, arith, ◌+◌}
use Rattle.weedle_memo.specs.Closure.{memory_of}
use Rattle.weedle_memo.proofs.LeafFacts.{run_alike, plain, run_inside}
use Rattle.weedle_memo.proofs.leaves.work_run.Goals as goal

pub fill_back-requires-clause-leaf : goal.fill_back-requires-clause-leaf
fill_back-requires-clause-leaf c = plain c.args.rule c.requires.row refl

pub fill_back-requires-clause-order : goal.fill_back-requires-clause-order
fill_back-requires-clause-order c = let e = c.end_of_run-end.ensures in omega arith

pub fill_back-requires-clause-within : goal.fill_back-requires-clause-within
fill_back-requires-clause-within c = run_inside c.args.reader.now.text c.args.place c.args.class c.requires.within c.end_of_run-end.ensures

pub fill_back-requires-clause-alike : goal.fill_back-requires-clause-alike
fill_back-requires-clause-alike c = run_alike c.args.reader.now.text c.args.rule c.args.place c.requires.row c.end_of_run-end.ensures

use Rattle.std.proofs.Common.{ap, refl, rules, ◌<◌}
use Rattle.weedle_memo.specs.Closure.{memory_of}
use Rattle.weedle_memo.proofs.GrowthFacts.{worked_one}
use Rattle.weedle_memo.proofs.LeafFacts.{not_next_right, plain}
use Rattle.weedle_grammar.specs.written.Bound.{rule_count}
use Rattle.weedle_memo.proofs.leaves.work_not_next.Goals as goal

pub keep-requires-clause-right : goal.keep-requires-clause-right
keep-requires-clause-right c = not_next_right c.args.reader.now.text c.args.rule c.args.place c.requires.row c.end_of_not_next-end.ensures

pub returns-clause-worked : goal.returns-clause-worked
returns-clause-worked c = worked_one (memory_of c.args.reader.now) (memory_of c.keep.new.self) c.args.rule c.args.place c.end_of_not_next-end.result (ap memory_of c.in_ok-keep.ensures.kept) (plain c.args.rule c.requires.row refl) (not_next_right c.args.reader.now.text c.args.rule c.args.place c.requires.row c.end_of_not_next-end.ensures)

use Rattle.std.proofs.Common.{arith, ap, refl, rules, ◌<◌}
use Rattle.weedle_memo.specs.Closure.{memory_of}
use Rattle.weedle_memo.proofs.GrowthFacts.{worked_one}
use Rattle.weedle_memo.proofs.LeafFacts.{bytes_right, plain}
use Rattle.weedle_grammar.specs.written.Bound.{rule_count}
use Rattle.weedle_rules.proofs.FewReads.{bytes_few}
use Rattle.weedle_memo.proofs.leaves.work_bytes.Goals as goal

pub keep-requires-clause-right : goal.keep-requires-clause-right
keep-requires-clause-right c = bytes_right c.args.reader.now.text c.args.rule c.args.place c.requires.row c.end_of_bytes-end.ensures

pub returns-clause-worked : goal.returns-clause-worked
returns-clause-worked c = worked_one (memory_of c.args.reader.now) (memory_of c.keep.new.self) c.args.rule c.args.place c.end_of_bytes-end.result (ap memory_of c.in_ok-keep.ensures.kept) (plain c.args.rule c.requires.row refl) (bytes_right c.args.reader.now.text c.args.rule c.args.place c.requires.row c.end_of_bytes-end.ensures)

pub keep-requires-clause-looked : goal.keep-requires-clause-looked
keep-requires-clause-looked c = let low : c.args.rule < rule_count = (search rules) in let few = bytes_few low c.requires.row in few.0

pub keep-requires-clause-few : goal.keep-requires-clause-few
keep-requires-clause-few c = let low : c.args.rule < rule_count = (search rules) in let few = bytes_few low c.requires.row in omega (arith, few.1)

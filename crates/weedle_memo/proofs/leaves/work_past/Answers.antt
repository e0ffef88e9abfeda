use Rattle.std.proofs.Common.{arith, rules, refl, sym, ◌∙◌, ◌<◌, ◌≤◌, ◌+◌, ◌-◌, length}
use Rattle.weedle_grammar.specs.written.Bound.{rule_count}
use Rattle.weedle_rules.proofs.FewReads.{past_few}
use Rattle.weedle_memo.specs.Closure.{memory_of}
use Rattle.weedle_memo.proofs.LeafFacts.{past_some, past_inside, past_alike, past_none_alike, plain}
use Rattle.weedle_memo.proofs.leaves.work_past.Goals as goal

pub overflow_sub-end : goal.overflow_sub-end
overflow_sub-end c = let h = sym c.in-Some.is ∙ c.end_past.ensures in let far = past_some c.args.reader.now.text c.args.rule c.args.place c.requires.row h in omega arith

pub fill_back-requires-clause-leaf : goal.fill_back-requires-clause-leaf
fill_back-requires-clause-leaf c = plain c.args.rule c.requires.row refl

pub fill_back-requires-clause-order : goal.fill_back-requires-clause-order
fill_back-requires-clause-order c = let h = sym c.in-Some.is ∙ c.end_past.ensures in let far = past_some c.args.reader.now.text c.args.rule c.args.place c.requires.row h in omega arith

pub fill_back-requires-clause-within : goal.fill_back-requires-clause-within
fill_back-requires-clause-within c = let h = sym c.in-Some.is ∙ c.end_past.ensures in let far = past_some c.args.reader.now.text c.args.rule c.args.place c.requires.row h in let within = past_inside c.args.reader.now.text c.args.rule c.args.place c.requires.row c.requires.within h in omega arith

pub fill_back-requires-clause-alike : goal.fill_back-requires-clause-alike
fill_back-requires-clause-alike c = let h = sym c.in-Some.is ∙ c.end_past.ensures in let far = past_some c.args.reader.now.text c.args.rule c.args.place c.requires.row h in past_alike c.args.reader.now.text c.args.rule c.args.place c.requires.row h (omega arith)

pub fill_back-requires-clause-looked : goal.fill_back-requires-clause-looked
fill_back-requires-clause-looked c = let low : c.args.rule < rule_count = (search rules) in let few = past_few low c.requires.row in few.0

pub fill_back-requires-clause-few : goal.fill_back-requires-clause-few
fill_back-requires-clause-few c = let low : c.args.rule < rule_count = (search rules) in let few = past_few low c.requires.row in omega (arith, few.1)

pub fill_back-requires-in-None-clause-leaf : goal.fill_back-requires-in-None-clause-leaf
fill_back-requires-in-None-clause-leaf c = plain c.args.rule c.requires.row refl

pub fill_back-requires-in-None-clause-order : goal.fill_back-requires-in-None-clause-order
fill_back-requires-in-None-clause-order c = let h = sym c.in-None.is ∙ c.end_past.ensures in let n = c.text_len-last.ensures in let w = c.requires.within in omega arith

pub fill_back-requires-in-None-clause-within : goal.fill_back-requires-in-None-clause-within
fill_back-requires-in-None-clause-within c = let h = sym c.in-None.is ∙ c.end_past.ensures in let n = c.text_len-last.ensures in omega arith

pub fill_back-requires-in-None-clause-alike : goal.fill_back-requires-in-None-clause-alike
fill_back-requires-in-None-clause-alike c = let h = sym c.in-None.is ∙ c.end_past.ensures in let n = c.text_len-last.ensures in past_none_alike c.args.reader.now.text c.args.rule c.args.place c.requires.row _ h

pub fill_back-requires-in-None-clause-looked : goal.fill_back-requires-in-None-clause-looked
fill_back-requires-in-None-clause-looked c = let low : c.args.rule < rule_count = (search rules) in let few = past_few low c.requires.row in few.0

pub fill_back-requires-in-None-clause-few : goal.fill_back-requires-in-None-clause-few
fill_back-requires-in-None-clause-few c = let low : c.args.rule < rule_count = (search rules) in let few = past_few low c.requires.row in omega (arith, few.1)

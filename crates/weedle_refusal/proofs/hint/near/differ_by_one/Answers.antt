use Rattle.weedle_refusal.proofs.NearFacts.{is_missing, is_added, is_changed, is_exchanged}
use Rattle.weedle_refusal.proofs.hint.near.differ_by_one.Goals as goal

pub returns-then-has_one_more : goal.returns-then-has_one_more
returns-then-has_one_more c = λ _. is_missing c.common-same.result c.args.word.now c.args.other.now c.common-same.ensures.same (c.has_one_more.ensures c.if-has_one_more.true)

pub returns-then-has_one_more-2 : goal.returns-then-has_one_more-2
returns-then-has_one_more-2 c = λ _. is_added c.common-same.result c.args.word.now c.args.other.now c.common-same.ensures.same (c.has_one_more-2.ensures c.if-has_one_more-2.true)

pub returns-then-is_changed : goal.returns-then-is_changed
returns-then-is_changed c = λ _. is_changed c.common-same.result c.args.word.now c.args.other.now c.common-same.ensures.same (c.is_changed.ensures c.if-is_changed.true)

pub returns : goal.returns
returns c = λ is. is_exchanged c.common-same.result c.args.word.now c.args.other.now c.common-same.ensures.same (c.are_exchanged.ensures is)

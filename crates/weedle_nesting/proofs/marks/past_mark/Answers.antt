use Rattle.weedle_nesting.proofs.WeightFacts.{behind_quote, behind_slash}
use Rattle.weedle_nesting.proofs.MarkFacts.{past_quotes}
use Rattle.weedle_nesting.proofs.marks.past_mark.Goals as goal

pub returns-in-34-clause-bare : goal.returns-in-34-clause-bare
returns-in-34-clause-bare c = rw (c.in-34.is, c.past_byte.ensures) (past_quotes c.args.after.now)

pub returns-in-34-clause-weighs : goal.returns-in-34-clause-weighs
returns-in-34-clause-weighs c depth = rw c.past_byte.ensures (behind_quote depth _ _ c.in-34.is)

pub returns-in-47-clause-weighs : goal.returns-in-47-clause-weighs
returns-in-47-clause-weighs c depth = behind_slash depth _ _ _ c.in-47.is (c.past_comment.ensures.weighs depth)

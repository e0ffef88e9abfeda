use Rattle.weedle_nesting.proofs.WeightFacts.{slash_aside_block, slash_aside_line}
use Rattle.weedle_nesting.proofs.MarkFacts.{slash_line, slash_block}
use Rattle.weedle_nesting.proofs.marks.past_comment.Goals as goal

pub returns-in-Some-eq47-default-clause-bare : goal.returns-in-Some-eq47-default-clause-bare
returns-in-Some-eq47-default-clause-bare c =
    let e = rw c.in-Some-eq47-default.field-0-0-test at c.in-Some-eq47-default.ensures.cases.0 in
    rw c.past_byte.ensures (slash_line _ _ e)

pub returns-in-Some-eq42-default-clause-bare : goal.returns-in-Some-eq42-default-clause-bare
returns-in-Some-eq42-default-clause-bare c =
    let e = rw c.in-Some-eq42-default.field-0-0-test at c.in-Some-eq42-default.ensures.cases.0 in
    rw c.past_block.ensures (slash_block _ _ e)

pub returns-in-Some-eq47-default-clause-weighs : goal.returns-in-Some-eq47-default-clause-weighs
returns-in-Some-eq47-default-clause-weighs c depth =
    let e = rw c.in-Some-eq47-default.field-0-0-test at c.in-Some-eq47-default.ensures.cases.0 in
    rw c.past_byte.ensures (slash_aside_line depth _ _ e)

pub returns-in-Some-eq42-default-clause-weighs : goal.returns-in-Some-eq42-default-clause-weighs
returns-in-Some-eq42-default-clause-weighs c depth =
    let e = rw c.in-Some-eq42-default.field-0-0-test at c.in-Some-eq42-default.ensures.cases.0 in
    rw c.past_block.ensures (slash_aside_block depth _ _ e)

use Rattle.std.proofs.Common.{arith, ap, length}
use Rattle.weedle_front.proofs.WholeFacts.{built, read_answers, answers_within, whole_spells, whole_texts}
use Rattle.weedle_front.proofs.bounded.parse_bounded.Goals as goal

pub returns-in-Ok-build_by_memo-clause-answers : goal.returns-in-Ok-build_by_memo-clause-answers
returns-in-Ok-build_by_memo-clause-answers c = read_answers _ (built c.in-Ok-build_by_memo.ensures) _ c.whole.ensures

pub returns-in-Ok-build_by_memo-clause-spells : goal.returns-in-Ok-build_by_memo-clause-spells
returns-in-Ok-build_by_memo-clause-spells c =
    whole_spells c.definitions.ensures _ _ (read_answers _ (built c.in-Ok-build_by_memo.ensures) _ c.whole.ensures)

pub returns-in-Ok-build_by_memo-clause-pieces : goal.returns-in-Ok-build_by_memo-clause-pieces
returns-in-Ok-build_by_memo-clause-pieces c =
    whole_texts c.definitions.ensures _ _ (read_answers _ (built c.in-Ok-build_by_memo.ensures) _ c.whole.ensures)

pub returns-in-Ok-build_by_memo-clause-within : goal.returns-in-Ok-build_by_memo-clause-within
returns-in-Ok-build_by_memo-clause-within c = answers_within _ _ (read_answers _ (built c.in-Ok-build_by_memo.ensures) _ c.whole.ensures)

-- what the memo counted of this text
pub returns-in-Ok-build_by_memo-clause-bounded : goal.returns-in-Ok-build_by_memo-clause-bounded
returns-in-Ok-build_by_memo-clause-bounded c = record {
  workings = omega (arith, c.workings.ensures.few, ap length c.in-Ok.ensures);
  looked = omega (arith, c.workings.ensures.value, c.reads-reads.ensures.each);
  reads = omega (arith, c.workings.ensures.value, c.reads-reads.ensures.few);
  visits = c.in-Ok-build_by_memo.ensures.few;
}

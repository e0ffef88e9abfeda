use Rattle.weedle_front.proofs.WholeFacts.{descended, read_answers, answers_within, whole_spells, whole_texts}
use Rattle.weedle_front.proofs.descent.parse_by_descent.Goals as goal

pub returns-in-Ok-clause-answers : goal.returns-in-Ok-clause-answers
returns-in-Ok-clause-answers c = read_answers _ (descended c.definitions.ensures c.in-Ok.ensures) _ c.whole.ensures

pub returns-in-Ok-clause-spells : goal.returns-in-Ok-clause-spells
returns-in-Ok-clause-spells c =
    whole_spells c.definitions-2.ensures _ _ (read_answers _ (descended c.definitions.ensures c.in-Ok.ensures) _ c.whole.ensures)

pub returns-in-Ok-clause-pieces : goal.returns-in-Ok-clause-pieces
returns-in-Ok-clause-pieces c =
    whole_texts c.definitions-2.ensures _ _ (read_answers _ (descended c.definitions.ensures c.in-Ok.ensures) _ c.whole.ensures)

pub returns-in-Ok-clause-within : goal.returns-in-Ok-clause-within
returns-in-Ok-clause-within c = answers_within _ _ (read_answers _ (descended c.definitions.ensures c.in-Ok.ensures) _ c.whole.ensures)

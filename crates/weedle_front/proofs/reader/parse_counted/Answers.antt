use Rattle.weedle_front.proofs.WholeFacts.{built, read_answers, answers_within, whole_spells, whole_texts}
use Rattle.weedle_front.proofs.reader.parse_counted.Goals as goal

pub returns-in-Ok-build_definitions-clause-answers : goal.returns-in-Ok-build_definitions-clause-answers
returns-in-Ok-build_definitions-clause-answers c = read_answers _ (built c.in-Ok-build_definitions.ensures) _ c.whole.ensures

pub returns-in-Ok-build_definitions-clause-spells : goal.returns-in-Ok-build_definitions-clause-spells
returns-in-Ok-build_definitions-clause-spells c =
    whole_spells c.definitions.ensures _ _ (read_answers _ (built c.in-Ok-build_definitions.ensures) _ c.whole.ensures)

pub returns-in-Ok-build_definitions-clause-pieces : goal.returns-in-Ok-build_definitions-clause-pieces
returns-in-Ok-build_definitions-clause-pieces c =
    whole_texts c.definitions.ensures _ _ (read_answers _ (built c.in-Ok-build_definitions.ensures) _ c.whole.ensures)

pub returns-in-Ok-build_definitions-clause-within : goal.returns-in-Ok-build_definitions-clause-within
returns-in-Ok-build_definitions-clause-within c = answers_within _ _ (read_answers _ (built c.in-Ok-build_definitions.ensures) _ c.whole.ensures)

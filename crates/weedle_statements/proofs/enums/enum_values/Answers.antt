use Rattle.weedle_statements.proofs.EnumValueRules.{listed_values_rule}
use Rattle.weedle_statements.proofs.enums.enum_values.Goals as goal
use Rattle.weedle_types.proofs.SharedRules.{answers_rule}

pub returns : goal.returns
returns c = answers_rule _ (listed_values_rule _) _ c.parse.ensures

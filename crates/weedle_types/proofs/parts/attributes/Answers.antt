use Rattle.weedle_types.proofs.AliasRules.{attributes_law}
use Rattle.weedle_types.proofs.SharedRules.{answers_rule}
use Rattle.weedle_types.proofs.parts.attributes.Goals as goal

pub returns : goal.returns
returns c = answers_rule _ (attributes_law _) _ c.parse.ensures

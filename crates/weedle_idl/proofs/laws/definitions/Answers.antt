use Rattle.weedle_idl.proofs.DefinitionListRules.{definitions_rule}
use Rattle.weedle_idl.proofs.laws.definitions.Goals as goal

pub returns : goal.returns
returns c = definitions_rule

use Rattle.weedle_idl.proofs.DefinitionListRules.{definitions_never_refuse}
use Rattle.weedle_idl.proofs.laws.definitions_never_refuse.Goals as goal

pub returns : goal.returns
returns c = definitions_never_refuse

use Rattle.std.proofs.Common.{refl}
use Rattle.weedle_build_base.proofs.Finding.{absent, present}
use Rattle.weedle_build_base.proofs.Options.{option_none, option_some}
use Rattle.weedle_build_types.proofs.types.steps.optional.Goals as goal

pub build-requires : goal.build-requires
build-requires g c κs = ((refl, tt), (c.requires.fit, present c.requires.tried c.in-Some.ensures.right))

pub returns-in_ok-value-in-Some : goal.returns-in_ok-value-in-Some
returns-in_ok-value-in-Some g c = λ r o. option_some o.row o.shape c.in_ok-value-in-Some.ensures c.visit.ensures

pub returns-in-None : goal.returns-in-None
returns-in-None g c = λ r o. option_none o.row o.shape (absent c.in-None.ensures.right) c.visit-in-None.ensures

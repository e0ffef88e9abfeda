use Rattle.std.proofs.Common.{refl, sym}
use Rattle.weedle_build_base.proofs.Options.{option_some, option_none, option_fits}
use Rattle.weedle_build_base.proofs.Finding.{absent, present}
use Rattle.weedle_build_base.proofs.WantedFacts.{option_tried}
use Rattle.weedle_build_base.proofs.generic.OptionBuild.build.Goals as goal

pub end-requires : goal.end-requires
end-requires g c = option_tried c.requires.due c.in-Opt.ensures

pub build-requires : goal.build-requires
build-requires g c κs =
    ((refl, tt), ((option_fits g.T.Build.fits c.args.rule c.requires.fit c.in-Opt.ensures).0, present (option_tried c.requires.due c.in-Opt.ensures) c.in-Some.ensures.right))

pub returns-in_ok-value-in-Some : goal.returns-in_ok-value-in-Some
returns-in_ok-value-in-Some g c =
    option_some (sym c.in-Opt.ensures) (option_fits g.T.Build.fits c.args.rule c.requires.fit c.in-Opt.ensures).1 c.in_ok-value-in-Some.ensures c.visit.ensures

pub returns-in-None : goal.returns-in-None
returns-in-None g c =
    option_none (sym c.in-Opt.ensures) (option_fits g.T.Build.fits c.args.rule c.requires.fit c.in-Opt.ensures).1 (absent c.in-None.ensures.right) c.visit-in-None.ensures

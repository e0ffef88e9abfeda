use Rattle.std.proofs.Common.{refl, sym}
use Rattle.weedle_build_base.specs.Fits.{end_fits}
use Rattle.weedle_build_base.proofs.Sequences.{field_fits, no_field, field_due, run_last}
use Rattle.weedle_build_base.proofs.fields.LastFields.build_fields.Goals as goal

pub unreachable-requires : goal.unreachable-requires
unreachable-requires g c = no_field g.A.Build.fits end_fits _ c.args.first c.requires.fit (sym c.in_default.ensures.found)

pub build-requires : goal.build-requires
build-requires g c κs =
    ((refl, tt), ((field_fits g.A.Build.fits end_fits _ c.args.first c.requires.fit (sym c.in-Some.ensures.found)).0, field_due _ c.args.first c.requires.due (sym c.in-Some.ensures.found)))

pub returns : goal.returns
returns g c = run_last _ c.args.first (sym c.in-Some.ensures.found) c.in_ok-field.ensures (field_fits g.A.Build.fits end_fits _ c.args.first c.requires.fit (sym c.in-Some.ensures.found)).1

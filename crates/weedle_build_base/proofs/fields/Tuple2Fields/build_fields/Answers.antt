use Rattle.std.proofs.Common.{refl, sym}
use Rattle.weedle_build_base.proofs.Sequences.{field_fits, no_field, field_due, fields_due, run_field}
use Rattle.weedle_build_base.proofs.fields.Tuple2Fields.build_fields.Goals as goal

pub unreachable-requires : goal.unreachable-requires
unreachable-requires g c = no_field g.A.Build.fits g.P.Fields.fits _ c.args.first c.requires.fit (sym c.in_default.ensures.found)

pub build-requires : goal.build-requires
build-requires g c κs =
    ((refl, tt), ((field_fits g.A.Build.fits g.P.Fields.fits _ c.args.first c.requires.fit (sym c.in-Some.ensures.found)).0, field_due _ c.args.first c.requires.due (sym c.in-Some.ensures.found)))

pub build_fields-requires : goal.build_fields-requires
build_fields-requires g c κs =
    ((refl, tt), ((field_fits g.A.Build.fits g.P.Fields.fits _ c.args.first c.requires.fit (sym c.in-Some.ensures.found)).1, fields_due _ c.args.first c.requires.due (sym c.in-Some.ensures.found) c.in_ok-field.ensures))

pub returns : goal.returns
returns g c = run_field _ c.args.first (sym c.in-Some.ensures.found) c.in_ok-field.ensures c.in_ok-fields.ensures

use Rattle.std.proofs.Common.{refl}
use Rattle.weedle_build_base.proofs.Sequences.{seq_fits, seq_due, seq_built}
use Rattle.weedle_build_base.proofs.fields.sequence.Goals as goal

pub build_fields-requires : goal.build_fields-requires
build_fields-requires g c κs =
    ((refl, tt), (seq_fits g.P.Fields.fits c.args.rule c.requires.fit, seq_due g.P.Fields.fits c.args.rule c.requires.fit c.requires.due))

pub returns : goal.returns
returns g c = seq_built g.P.Fields.fits c.args.rule c.requires.fit c.in_ok-fields.ensures c.visit.ensures

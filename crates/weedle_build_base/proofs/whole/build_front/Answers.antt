use Rattle.std.proofs.Common.{refl, arith}
use Rattle.std.proofs.lemmas.Grind.{common_steps}
use Rattle.weedle_grammar.specs.written.Table.Definitions.{DEFINITIONS}
use Rattle.weedle_build_base.specs.Built.{Builds}
use Rattle.weedle_build_base.proofs.WholeSteps.{whole_due, whole_boundary, whole_counts, whole_few}
use Rattle.weedle_build_base.proofs.whole.build_front.Goals as goal

pub build-requires : goal.build-requires
build-requires g c κs = ((refl, tt), (c.requires.fit, rw c.requires.table (whole_due c.args.raw.now c.utf8.raw)))

pub range_from-requires : goal.range_from-requires
range_from-requires g c =
    let b : Builds c.args.raw.now DEFINITIONS (g.T.Build.tree c.in_ok-value.value) 0 0 c.in_ok-value.end.place c.in_ok-value.end.visits = rw c.requires.table at c.in_ok-value.ensures in
    λ positive. whole_boundary c.utf8.raw b (whole_due c.args.raw.now c.utf8.raw)

pub returns : goal.returns
returns g c =
    let b : Builds c.args.raw.now DEFINITIONS (g.T.Build.tree c.in_ok-value.value) 0 0 c.in_ok-value.end.place c.in_ok-value.end.visits = rw c.requires.table at c.in_ok-value.ensures in
    let d = whole_due c.args.raw.now c.utf8.raw in
    record {
      end = c.in_ok-value.end.place;
      reads = b.reads;
      rest_is = grind (arith, common_steps, c.range_from.ensures.value, c.range_from.ensures.len);
      counts = whole_counts c.utf8.raw b d (omega arith);
      few = whole_few c.utf8.raw b d (omega arith);
    }

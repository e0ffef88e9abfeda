use Rattle.std.proofs.Common.{refl, arith}
use Rattle.weedle_build_base.proofs.Repeats.{repeating_start, repeating_next, repeating_end, item_tried, item_due, item_takes, fits_many_is, map_push}
use Rattle.weedle_build_base.proofs.generic.VecBuild.build.Goals as goal

pub items-init : goal.items-init
items-init g c = rw c.new-list.ensures.items (repeating_start c.args.at.visits c.requires.due c.in-Many.ensures)

pub end-requires : goal.end-requires
end-requires g c = item_tried c.items.invariant

pub build-requires : goal.build-requires
build-requires g c κs =
    ((refl, tt), ((fits_many_is g.T.Build.fits _ _ c.in-Many.ensures c.requires.fit).0, item_due c.items.invariant c.in-Some.ensures.right))

pub items-smaller : goal.items-smaller
items-smaller g c =
    let n = repeating_next c.items.invariant c.in_ok-value.ensures in
    let l = item_takes c.items.invariant c.in_ok-value.ensures in omega (arith, n.due.boundary.0)

pub items-preserved : goal.items-preserved
items-preserved g c =
    let n = repeating_next c.items.invariant c.in_ok-value.ensures in
    rw (c.in_ok-push.ensures.items, map_push g.T.Build.tree c.items.list.items c.in_ok-value.value) n

pub returns : goal.returns
returns g c = repeating_end c.items.invariant c.in_default-end.ensures.right c.in-Many.ensures (fits_many_is g.T.Build.fits _ _ c.in-Many.ensures c.requires.fit).1 c.visit.ensures

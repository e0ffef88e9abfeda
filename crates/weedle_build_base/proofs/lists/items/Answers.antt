use Rattle.std.proofs.Common.{refl, arith}
use Rattle.weedle_grammar.specs.written.Table.{row_of, shape_of}
use Rattle.weedle_build_base.proofs.Repeats.{map_push}
use Rattle.weedle_build_base.proofs.Separated.{fits_tail_is, listing_start, listing_next, listing_end, listing_back, separator_tried, behind_tried, behind_due}
use Rattle.weedle_build_base.proofs.lists.items.Goals as goal

pub build-requires : goal.build-requires
build-requires g c κs = ((refl, tt), (c.requires.fit, c.requires.due.item))

pub loop-behind-init : goal.loop-behind-init
loop-behind-init g c =
    let r = fits_tail_is c.args.item (row_of c.args.tail) (shape_of c.args.tail) c.in-Tail.ensures c.requires.tail in
    rw (c.in_ok-push.ensures.items, c.new-list.ensures.items) (listing_start c.requires.due r.0 c.in_ok-first.ensures)

pub end-requires : goal.end-requires
end-requires g c = separator_tried c.loop-behind.invariant.tail

pub end-requires-in-Some : goal.end-requires-in-Some
end-requires-in-Some g c = behind_tried c.loop-behind.invariant.tail c.in-Some.ensures.right

pub returns-in_default-end-2 : goal.returns-in_default-end-2
returns-in_default-end-2 g c =
    let r = fits_tail_is c.args.item (row_of c.args.tail) (shape_of c.args.tail) c.in-Tail.ensures c.requires.tail in
    listing_back c.loop-behind.invariant r.0 r.1 c.in-Some.ensures.right c.in_default-end-2.ensures.right

pub build-requires-in-Some : goal.build-requires-in-Some
build-requires-in-Some g c κs = ((refl, tt), (c.requires.fit, behind_due c.loop-behind.invariant.tail c.in-Some.ensures.right c.in-Some-end.ensures.right))

pub loop-behind-smaller : goal.loop-behind-smaller
loop-behind-smaller g c = let n = listing_next c.loop-behind.invariant c.in-Some.ensures.right c.in_ok-value.ensures in omega (arith, n.1, n.0.tail.due.boundary.0)

pub loop-behind-preserved : goal.loop-behind-preserved
loop-behind-preserved g c =
    let n = listing_next c.loop-behind.invariant c.in-Some.ensures.right c.in_ok-value.ensures in
    rw (c.in_ok-push-2.ensures.items, map_push g.T.Build.tree c.loop-behind.list.items c.in_ok-value.value) n.0

pub returns : goal.returns
returns g c =
    let r = fits_tail_is c.args.item (row_of c.args.tail) (shape_of c.args.tail) c.in-Tail.ensures c.requires.tail in
    listing_end c.loop-behind.invariant r.0 r.1 c.in_default-end.ensures.right

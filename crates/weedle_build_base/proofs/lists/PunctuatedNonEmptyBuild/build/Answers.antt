use Rattle.std.proofs.Common.{refl, sym, ◌∙◌}
use Rattle.weedle_build_base.proofs.NonEmpty.{list_is_there, first_list, list_fits, parts_are, seen_list1, list1_due, non_empty_built}
use Rattle.weedle_build_base.proofs.Sequences.{front, rest_of_row}
use Rattle.weedle_build_base.proofs.lists.PunctuatedNonEmptyBuild.build.Goals as goal

pub unreachable-requires : goal.unreachable-requires
unreachable-requires g c = list_is_there g.T.Build.fits c.args.rule c.requires.fit (sym c.in_default.ensures.found)

pub unreachable-requires-in_default-row_of : goal.unreachable-requires-in_default-row_of
unreachable-requires-in_default-row_of g c =
    let h = first_list g.T.Build.fits c.args.rule c.requires.fit (sym c.in-Some.ensures.found) in
    seen_list1 c.row_of.result (c.row_of.ensures ∙ h.row_is) c.in_default-row_of.not-List1

pub items-requires : goal.items-requires
items-requires g c κs =
    let f = list_fits g.T.Build.fits c.args.rule c.requires.fit (sym c.in-Some.ensures.found) c.in-List1.ensures in
    let p = parts_are g.T.Build.fits c.args.rule c.requires.fit (sym c.in-Some.ensures.found) in
    ((refl, tt), (f.0, (f.1, list1_due (front (rest_of_row c.requires.due p.1)) (sym c.in-List1.ensures))))

pub returns : goal.returns
returns g c =
    let h = first_list g.T.Build.fits c.args.rule c.requires.fit (sym c.in-Some.ensures.found) in
    let p = parts_are g.T.Build.fits c.args.rule c.requires.fit (sym c.in-Some.ensures.found) in
    rw c.visit.ensures.same (non_empty_built p.1 p.2 (sym c.in-List1.ensures) h.shape_is c.in_ok-list.ensures c.end_at.ensures c.visit.ensures.counts)

use Rattle.std.proofs.Common.{refl, sym}
use Rattle.weedle_grammar.specs.written.Table.{row_of, shape_of}
use Rattle.weedle_build_base.proofs.Finding.{absent, present}
use Rattle.weedle_build_base.proofs.WantedFacts.{list_tried}
use Rattle.weedle_build_base.proofs.Separated.{fits_list_is, due_list, list_built, list_empty}
use Rattle.weedle_build_base.proofs.lists.PunctuatedBuild.build.Goals as goal

pub end-requires : goal.end-requires
end-requires g c = list_tried c.requires.due c.in-List.ensures

pub returns-in_default-end : goal.returns-in_default-end
returns-in_default-end g c =
    let r = fits_list_is g.T.Build.fits (row_of c.args.rule) (shape_of c.args.rule) c.in-List.ensures c.requires.fit in
    rw c.new-list.ensures.items (list_empty (sym c.in-List.ensures) r.2 (absent c.in_default-end.ensures.right) c.visit.ensures)

pub items-requires : goal.items-requires
items-requires g c κs =
    let r = fits_list_is g.T.Build.fits (row_of c.args.rule) (shape_of c.args.rule) c.in-List.ensures c.requires.fit in
    ((refl, tt), (r.0, (r.1, due_list c.requires.due (sym c.in-List.ensures) (present (list_tried c.requires.due c.in-List.ensures) c.in-Some.ensures.right))))

pub returns : goal.returns
returns g c =
    let r = fits_list_is g.T.Build.fits (row_of c.args.rule) (shape_of c.args.rule) c.in-List.ensures c.requires.fit in
    list_built (sym c.in-List.ensures) r.2 c.in_ok-list.ensures c.visit-2.ensures

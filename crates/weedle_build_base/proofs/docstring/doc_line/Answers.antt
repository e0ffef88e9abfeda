use Rattle.std.proofs.Common.{◌≡◌, ◌-◌, arith}
use Rattle.weedle_grammar.specs.Meaning.{between}
use Rattle.weedle_build_base.proofs.LineSteps.{blanks_due, slashes_due, line_after, line_boundary, line_start, line_reads}
use Rattle.weedle_build_base.proofs.docstring.doc_line.Goals as goal

pub end_at-blanks-requires : goal.end_at-blanks-requires
end_at-blanks-requires c = blanks_due c.requires

pub end_at-start-requires : goal.end_at-start-requires
end_at-start-requires c = slashes_due c.requires c.end_at-blanks.ensures

pub overflow_sub-end : goal.overflow_sub-end
overflow_sub-end c = let a = line_after c.requires c.end_at-blanks.ensures c.end_at-start.ensures c.end_at-end.ensures in omega arith

pub range-requires-clause-start_le_end : goal.range-requires-clause-start_le_end
range-requires-clause-start_le_end c = let a = line_after c.requires c.end_at-blanks.ensures c.end_at-start.ensures c.end_at-end.ensures in omega arith

pub range-requires-clause-start_boundary : goal.range-requires-clause-start_boundary
range-requires-clause-start_boundary c = λ positive. line_start c.requires c.end_at-blanks.ensures c.end_at-start.ensures

pub range-requires-clause-end_boundary : goal.range-requires-clause-end_boundary
range-requires-clause-end_boundary c = line_boundary c.requires c.end_at-blanks.ensures c.end_at-start.ensures c.end_at-end.ensures

pub returns : goal.returns
returns c =
    let b : c.range.result.now ≡ between c.args.table.text.now c.end_at-start.result (c.end_at-end.result - 1) = c.range.ensures.value in
    line_reads c.requires c.end_at-blanks.ensures c.end_at-start.ensures c.end_at-end.ensures b

use Rattle.std.proofs.Common.{arith}
use Rattle.weedle_build_base.proofs.Finding.{due_at, builds_at, visited}
use Rattle.weedle_build_base.proofs.Repeats.{item_tried, item_due}
use Rattle.weedle_build_base.proofs.LineSteps.{first_due, lining_start, lining_next, lining_takes, lining_end}
use Rattle.weedle_build_base.proofs.docstring.DocstringBuild.build.Goals as goal

pub doc_line-place-requires : goal.doc_line-place-requires
doc_line-place-requires c = first_due (due_at c.requires.fit c.requires.due)

pub lines-init : goal.lines-init
lines-init c = rw c.in_ok-text.ensures.ok (lining_start (due_at c.requires.fit c.requires.due) c.doc_line-place.ensures)

pub end-requires : goal.end-requires
end-requires c = item_tried c.lines.invariant.tail

pub doc_line-next-requires : goal.doc_line-next-requires
doc_line-next-requires c = item_due c.lines.invariant.tail c.in-Some.ensures.right

pub lines-smaller : goal.lines-smaller
lines-smaller c = let n = lining_takes c.lines.invariant c.doc_line-next.ensures in omega (arith, n.0, n.1)

pub lines-preserved : goal.lines-preserved
lines-preserved c = lining_next c.lines.invariant c.doc_line-next.ensures c.in_ok-push_line.ensures

pub returns : goal.returns
returns c = builds_at c.requires.fit (visited (lining_end c.lines.invariant c.in_default.ensures.right c.visit.ensures.counts) c.visit.ensures)

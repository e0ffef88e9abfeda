use Rattle.std.proofs.Common.{Some, None, arith}
use Rattle.memchr.specs.Find.{IsFirstByte, is_byte}
use Rattle.weedle_grammar.proofs.FindFacts.{behind_cut}
use Rattle.weedle_base.proofs.LineFacts.{no_slashes, open_line, whole_line}
use Rattle.weedle_base.proofs.doc_lines.doc_line.Goals as goal

pub returns-in_err-after : goal.returns-in_err-after
returns-in_err-after c = let e = c.from_residual.ensures in rw e (no_slashes c.after_run-line.ensures c.in_err-after.ensures)

pub returns-in_err-end : goal.returns-in_err-end
returns-in_err-end c =
    let p : IsFirstByte (is_byte 10) c.in_ok-after.after.now None = rw c.as_bytes.ensures.value at c.in_err-end.ensures in
    let e = c.from_residual-in_err-end.ensures in
    rw e (open_line c.after_run-line.ensures c.in_ok-after.ensures p)

pub range_from-requires : goal.range_from-requires
range_from-requires c =
    let p : IsFirstByte (is_byte 10) c.in_ok-after.after.now (Some c.in_ok-end.end) = rw c.as_bytes.ensures.value at c.in_ok-end.ensures in
    λ positive. behind_cut 10 c.in_ok-after.after.now c.in_ok-end.end (omega arith) (rw c.as_bytes.ensures.value at c.as_bytes.ensures.utf8) p

pub returns : goal.returns
returns c =
    let p : IsFirstByte (is_byte 10) c.in_ok-after.after.now (Some c.in_ok-end.end) = rw c.as_bytes.ensures.value at c.in_ok-end.ensures in
    whole_line c.after_run-line.ensures c.in_ok-after.ensures c.in_ok-end.end p c.range.ensures.value c.range_from.ensures.value

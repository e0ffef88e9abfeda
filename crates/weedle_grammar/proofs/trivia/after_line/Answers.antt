use Rattle.std.proofs.Common.{Some, None, arith}
use Rattle.memchr.specs.Find.{IsFirstByte, is_byte}
use Rattle.weedle_grammar.proofs.FindFacts.{behind_cut}
use Rattle.weedle_grammar.proofs.LineEndFacts.{line_with_end, line_without_end}
use Rattle.weedle_grammar.proofs.trivia.after_line.Goals as goal

pub range_from-requires : goal.range_from-requires
range_from-requires c =
    let p : IsFirstByte (is_byte 10) c.args.input.now (Some c.in-Some.end) = rw c.as_bytes.ensures.value at c.in-Some.ensures in
    λ positive. behind_cut 10 c.args.input.now c.in-Some.end (omega arith) c.utf8.input p

pub returns-in-Some : goal.returns-in-Some
returns-in-Some c =
    let p : IsFirstByte (is_byte 10) c.args.input.now (Some c.in-Some.end) = rw c.as_bytes.ensures.value at c.in-Some.ensures in
    line_with_end c.in-Some.end p c.range_from.ensures.value

pub returns-in-None : goal.returns-in-None
returns-in-None c =
    let p : IsFirstByte (is_byte 10) c.args.input.now None = rw c.as_bytes.ensures.value at c.in-None.ensures in
    line_without_end p c.range_from-in-None.ensures.value

use Rattle.std.proofs.Common.{Some, None, refl, arith}
use Rattle.memchr.specs.Find.{IsFirstByte, is_byte}
use Rattle.weedle_grammar.specs.Trees.{Text}
use Rattle.weedle_base.proofs.TokenFacts.{got_own, fault_own}
use Rattle.weedle_grammar.proofs.FindFacts.{behind_cut}
use Rattle.weedle_parts.proofs.QuoteFacts.{no_quote, open_quote, quoted}
use Rattle.weedle_parts.proofs.literal.string.StringLitParse.parse.Goals as goal

pub returns-in_default : goal.returns-in_default
returns-in_default c = fault_own (λ v. Text v.0.now) ⊥ (no_quote c.skip_trivia-start.ensures c.in_default.ensures) c.utf8.input c.mismatch.ensures

pub range_from-requires : goal.range_from-requires
range_from-requires c =
    let p : IsFirstByte (is_byte 34) c.in-Some.after.now (Some c.in-Some-memchr.end) = rw c.as_bytes.ensures.value at c.in-Some-memchr.ensures in
    λ positive. behind_cut 34 c.in-Some.after.now c.in-Some-memchr.end (omega arith) (rw c.as_bytes.ensures.value at c.as_bytes.ensures.utf8) p

pub returns-in-Some-memchr : goal.returns-in-Some-memchr
returns-in-Some-memchr c =
    let p : IsFirstByte (is_byte 34) c.in-Some.after.now (Some c.in-Some-memchr.end) = rw c.as_bytes.ensures.value at c.in-Some-memchr.ensures in
    got_own (λ v. Text v.0.now) ⊥ _ (quoted c.skip_trivia-start.ensures c.in-Some.ensures c.in-Some-memchr.end p c.range.ensures.value c.range_from.ensures.value c.skip_trivia.ensures) refl c.utf8.input c.skip_trivia.utf8

pub returns-in-None : goal.returns-in-None
returns-in-None c =
    let p : IsFirstByte (is_byte 34) c.in-Some.after.now None = rw c.as_bytes.ensures.value at c.in-None.ensures in
    fault_own (λ v. Text v.0.now) ⊥ (open_quote c.skip_trivia-start.ensures c.in-Some.ensures p) c.utf8.input c.mismatch-in-None.ensures

use Rattle.std.proofs.Common.{[], ◌∷◌, refl, Some, None}
use Rattle.memchr.specs.Find.{FindsNeedle}
use Rattle.weedle_grammar.proofs.Suffix.{fails, no_node}
use Rattle.weedle_grammar.specs.written.Table.Trivia.{PAST_STAR_SLASH, BLOCK_COMMENT}
use Rattle.weedle_grammar.proofs.FindFacts.{needle_lacks, needle_took, needle_cut}
use Rattle.weedle_grammar.proofs.SilentRules.{exit, along, last, lost, took_seq}
use Rattle.weedle_grammar.proofs.trivia.block_comment.Goals as goal

pub returns-in_err-after : goal.returns-in_err-after
returns-in_err-after c = exit BLOCK_COMMENT c.from_residual.ensures (no_node refl (fails c.in_err-after.ensures))

pub returns-in_err-end : goal.returns-in_err-end
returns-in_err-end c =
    let p : FindsNeedle c.in_ok-after.after.now (42 ∷ 47 ∷ []) 0 None = rw c.as_bytes.ensures.value at c.in_err-end.ensures in
    exit BLOCK_COMMENT c.from_residual-in_err-end.ensures (no_node refl (lost c.in_ok-after.ensures (fails (needle_lacks PAST_STAR_SLASH refl refl p))))

pub range_from-requires : goal.range_from-requires
range_from-requires c =
    let p : FindsNeedle c.in_ok-after.after.now (42 ∷ 47 ∷ []) 0 (Some c.in_ok-end.end) = rw c.as_bytes.ensures.value at c.in_ok-end.ensures in
    λ positive. needle_cut PAST_STAR_SLASH refl refl p (rw c.as_bytes.ensures.value at c.as_bytes.ensures.utf8)

pub returns : goal.returns
returns c =
    let p : FindsNeedle c.in_ok-after.after.now (42 ∷ 47 ∷ []) 0 (Some c.in_ok-end.end) = rw c.as_bytes.ensures.value at c.in_ok-end.ensures in
    took_seq refl refl (along c.in_ok-after.ensures (last (needle_took PAST_STAR_SLASH refl refl p c.range_from.ensures.value)))

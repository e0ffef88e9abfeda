use Rattle.std.proofs.Common.{refl}
use Rattle.weedle_refusal.proofs.hint.check.keyword_helps.Goals as goal

pub returns : goal.returns
returns c = λ helped. (rw (c.as_bytes.ensures.value) at c.if-not-is_mistyped.ensures refl, c.in_ok-helped.ensures helped)

use Rattle.std.proofs.Common.{refl}
use Rattle.weedle_refusal.proofs.hint.check.extra_helps.Goals as goal

pub returns : goal.returns
returns c = λ helped. (
  c.if-not-is_sign.ensures refl,
  rw (c.as_bytes.ensures.value, c.as_bytes-else-not-is_sign.ensures.value) at c.if-not-stand_at.ensures refl,
  c.in_ok-helped.ensures helped,
)

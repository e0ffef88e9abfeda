use Rattle.std.proofs.Common.{refl}
use Rattle.weedle_refusal.proofs.hint.check.missing_helps.Goals as goal

pub returns : goal.returns
returns c = λ helped. (c.if-not-is_sign.ensures refl, c.in_ok-helped.ensures helped)

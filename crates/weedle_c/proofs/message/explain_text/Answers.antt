use Rattle.std.proofs.Common.{subst}
use Rattle.weedle_refusal.specs.Refusal.{Explains}
use Rattle.weedle_c.proofs.message.explain_text.Goals as goal

pub returns-in-Ok-Some-clause-refused : goal.returns-in-Ok-Some-clause-refused
returns-in-Ok-Some-clause-refused c = λ is. record {
  refusal = c.in-Ok-Some.refusal;
  is_refusal = subst (Explains c.args.raw.now) c.in-Ok-Some.field-0-is c.in-Ok-Some.ensures.explains;
  told = c.tell.ensures.refused is;
}

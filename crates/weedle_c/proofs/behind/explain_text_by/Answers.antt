use Rattle.std.proofs.Common.{subst}
use Rattle.weedle_refusal.specs.Refusal.{ExplainsBehindIn}
use Rattle.weedle_c.proofs.behind.explain_text_by.Goals as goal

pub returns-in-Ok-Some-clause-refused : goal.returns-in-Ok-Some-clause-refused
returns-in-Ok-Some-clause-refused c = λ is. record {
  refusal = c.in-Ok-Some.refusal;
  is_refusal = subst (ExplainsBehindIn c.args.dialect c.args.raw.now c.args.from) c.in-Ok-Some.field-0-is c.in-Ok-Some.ensures.explains;
  told = c.tell.ensures.refused is;
}

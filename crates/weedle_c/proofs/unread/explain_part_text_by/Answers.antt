use Rattle.std.proofs.Common.{Option, subst}
use Rattle.std.specs.Prelude.{IfSome}
use Rattle.weedle_recovery.specs.Refusals.{IsPartRefusalIn}
use Rattle.weedle_recovery.specs.declared.part.Part.{Part}
use Rattle.weedle_refusal.specs.declared.refusal.Refusal.{Refusal}
use Rattle.weedle_c.proofs.unread.explain_part_text_by.Goals as goal

pub returns-in-Ok-Some-clause-refused : goal.returns-in-Ok-Some-clause-refused
returns-in-Ok-Some-clause-refused c =
    let P : Part → Type 0 = λ part. IsPartRefusalIn c.args.dialect c.args.raw.now part c.in-Ok-Some.found in
    let said : IsPartRefusalIn c.args.dialect c.args.raw.now c.part_of.result c.in-Ok-Some.found =
    subst (λ (o : Option Refusal). IfSome o (IsPartRefusalIn c.args.dialect c.args.raw.now c.part_of.result)) c.in-Ok-Some.field-0-is c.in-Ok-Some.ensures.said in
    let is_refusal = subst P c.part_of.ensures said in
    λ is. record { refusal = c.in-Ok-Some.found; is_refusal = is_refusal; told = c.tell.ensures.refused is }

use Rattle.std.proofs.Common.{Option, subst}
use Rattle.std.specs.Prelude.{IfSome}
use Rattle.weedle_recovery.specs.Refusals.{IsPartRefusal}
use Rattle.weedle_recovery.specs.declared.part.Part.{Part}
use Rattle.weedle_refusal.specs.declared.refusal.Refusal.{Refusal}
use Rattle.weedle_syntax.specs.declared.dialect.Dialect.TheVariants.{Weedle2}
use Rattle.weedle_c.proofs.WordFacts.{expected_of_part, longer_as, written_as}
use Rattle.weedle_c.proofs.unread.expect_in_part_of.Goals as goal

pub returns-in-Ok-Some-clause-read : goal.returns-in-Ok-Some-clause-read
returns-in-Ok-Some-clause-read c =
    let P : Part → Type 0 = λ part. IsPartRefusal c.args.raw.now part c.in-Ok-Some.refusal in
    let said : IsPartRefusal c.args.raw.now c.part_of.result c.in-Ok-Some.refusal =
    subst (λ (o : Option Refusal). IfSome o (IsPartRefusal c.args.raw.now c.part_of.result)) c.in-Ok-Some.field-0-is c.in-Ok-Some.ensures.said in
    let is_refusal = subst P c.part_of.ensures said in
    λ is. written_as (expected_of_part Weedle2 c.args.raw.now c.args.part.now c.in-Ok-Some.refusal _ is_refusal c.deref.ensures.value) (c.put.ensures.read is)

pub returns-in-Ok-Some-clause-no_room : goal.returns-in-Ok-Some-clause-no_room
returns-in-Ok-Some-clause-no_room c =
    let P : Part → Type 0 = λ part. IsPartRefusal c.args.raw.now part c.in-Ok-Some.refusal in
    let said : IsPartRefusal c.args.raw.now c.part_of.result c.in-Ok-Some.refusal =
    subst (λ (o : Option Refusal). IfSome o (IsPartRefusal c.args.raw.now c.part_of.result)) c.in-Ok-Some.field-0-is c.in-Ok-Some.ensures.said in
    let is_refusal = subst P c.part_of.ensures said in
    λ is. longer_as (expected_of_part Weedle2 c.args.raw.now c.args.part.now c.in-Ok-Some.refusal _ is_refusal c.deref.ensures.value) (c.put.ensures.no_room is)

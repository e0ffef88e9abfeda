use Rattle.std.proofs.Common.{◌<◌, sym, subst}
use Rattle.std.specs.Prelude.{◌≡◌}
use Rattle.weedle_grammar.specs.written.Bound.{rule_count}
use Rattle.weedle_refusal.specs.Diagnosis.{IsUnmetIn}
use Rattle.weedle_refusal.specs.Noted.{Notes}
use Rattle.weedle_refusal.proofs.DiagnosisFacts.{first_within, furthest_found, same_place, start_low}
use Rattle.weedle_refusal.proofs.StepFacts.{Opening, count_both}
use Rattle.weedle_syntax.specs.Dialects.{start_of}
use Rattle.weedle_syntax.specs.Steps.{Spends, Steps}
use Rattle.weedle_refusal.proofs.diagnose.opened.furthest_from.Goals as goal

pub read-requires-clause-low : goal.read-requires-clause-low
read-requires-clause-low c = subst (λ r. r < rule_count) (sym c.start.ensures) (start_low c.args.dialect)

pub opened-requires : goal.opened-requires
opened-requires c =
    let text = c.args.text.now in
    let notes : Notes text (IsUnmetIn text (start_of c.args.dialect) c.args.start) c.new-first.result c.read.new.furthest =
    subst (λ r. Notes text (IsUnmetIn text r c.args.start) c.new-first.result c.read.new.furthest) c.start.ensures c.in_ok-read.ensures.notes in
    first_within c.args.dialect text c.args.start c.requires c.new-first.result c.read.new.furthest c.new-first.ensures.place c.new-first.ensures.none notes

pub returns-clause-found : goal.returns-clause-found
returns-clause-found c =
    let text = c.args.text.now in
    let notes : Notes text (IsUnmetIn text (start_of c.args.dialect) c.args.start) c.new-first.result c.read.new.furthest =
    subst (λ r. Notes text (IsUnmetIn text r c.args.start) c.new-first.result c.read.new.furthest) c.start.ensures c.in_ok-read.ensures.notes in
    furthest_found c.args.dialect text c.args.start c.requires c.new-first.result c.read.new.furthest c.new-first.ensures.place c.new-first.ensures.none notes _ c.in_ok-found.ensures.opened

pub returns-clause-steps : goal.returns-clause-steps
returns-clause-steps c =
    let text = c.args.text.now in
    let notes : Notes text (IsUnmetIn text (start_of c.args.dialect) c.args.start) c.new-first.result c.read.new.furthest =
    subst (λ r. Notes text (IsUnmetIn text r c.args.start) c.new-first.result c.read.new.furthest) c.start.ensures c.in_ok-read.ensures.notes in
    let here = same_place c.args.dialect text c.args.start c.requires c.new-first.result c.read.new.furthest c.new-first.ensures.place c.new-first.ensures.none notes _ c.in_ok-found.ensures.opened in
    let steps : Spends (Steps text (start_of c.args.dialect) c.args.start) c.args.left.now c.read.new.left =
    subst (λ r. Spends (Steps text r c.args.start) c.args.left.now c.read.new.left) c.start.ensures c.in_ok-read.ensures.steps in
    count_both text c.args.dialect steps (subst (λ p. Opening text p c.read.new.left c.opened.new.left) (sym here) c.in_ok-found.ensures.steps)

use Rattle.std.proofs.Common.{rules, sym, ap, ◌∙◌, map-id}
use Rattle.std.proofs.lemmas.Iterator.{YieldsList-from_chars, YieldsList-from_take}
use Rattle.std.proofs.lemmas.Iterator.Consumers.{YieldsList-end}
use Rattle.weedle_refusal.specs.Excerpt.{behind, next}
use Rattle.weedle_refusal.proofs.ExcerptFacts.{behind_more}
use Rattle.weedle_refusal.proofs.excerpt.width_before.Goals as goal

pub loop-character-preserved : goal.loop-character-preserved
loop-character-preserved c =
    c.step-at.ensures.value ∙ ap (λ p. next p c.in-Some.character) c.loop-character.invariant ∙ sym (behind_more 0 c.loop-character.yielded c.in-Some.character)

pub returns : goal.returns
returns c =
    let end = YieldsList-end (YieldsList-from_take c.args.column (YieldsList-from_chars c.args.line.now c.utf8.line (search rules)) (search rules)) c.loop-character.yielded _ c.loop-character.yielded_by _ _ c.in-None.is c.next.ensures.steps in
    c.loop-character.invariant ∙ ap (behind 0) (sym (map-id c.loop-character.yielded) ∙ end.0)

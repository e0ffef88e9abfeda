use Rattle.std.proofs.Common.{List, ℕ, rules, sym, subst, ◌∙◌, map-id}
use Rattle.std.proofs.lemmas.Iterator.{YieldsList-from_chars}
use Rattle.std.proofs.lemmas.Iterator.Consumers.{YieldsList-end}
use Rattle.std.specs.Io.KnownBytes.{Appends}
use Rattle.weedle_refusal.specs.Excerpt.{along, shown}
use Rattle.weedle_refusal.proofs.ExcerptFacts.{one_more}
use Rattle.weedle_refusal.proofs.excerpt.write_shown.Goals as goal

pub loop-character-preserved : goal.loop-character-preserved
loop-character-preserved g c =
    one_more (shown c.args.first) _ _ _ c.loop-character.yielded c.in-Some.character c.loop-character.at c.step-at.result c.loop-character.invariant c.in_ok-write_where_shown.ensures c.step-at.ensures.value

pub returns : goal.returns
returns g c =
    let end = YieldsList-end (YieldsList-from_chars c.args.line.now c.utf8.line cc) c.loop-character.yielded _ c.loop-character.yielded_by _ _ c.in-None.is c.next.ensures.steps in
    subst (λ (cs : List ℕ). Appends (g.W.Write.contents c.args.out.now) (g.W.Write.contents c.loop-character.out) (along (shown c.args.first) 0 cs)) (sym (map-id c.loop-character.yielded) ∙ end.0) c.loop-character.invariant.1

use Rattle.std.proofs.Common.{◌≡◌, ◌∙◌, List, true, false, sym, subst}
use Rattle.std.specs.List.{list_any}
use Rattle.weedle_refusal.proofs.WordFacts.{pushed, there}
use Rattle.weedle_refusal.specs.contracts.expected.ExpectedPartialEq.TheImpl.{ghosts}
use Rattle.weedle_refusal.specs.declared.expected.Expected.{Expected}
use Rattle.weedle_refusal.proofs.words.add_word.Goals as goal

pub returns-in_ok-push : goal.returns-in_ok-push
returns-in_ok-push c =
    let P : List Expected → Type 0 = λ words. list_any (λ word. ghosts.eq word c.in-Some.word) words ≡ false in
    λ before once. pushed c.args.dialect c.args.rules.now c.args.rule _ c.in-Some.word c.in-Some.ensures before once _ _ (subst P c.deref.ensures.value (sym c.contains.ensures.value ∙ c.if-not-contains.true)) c.push.ensures.items c.in_ok-push.was

pub returns-else-not-contains : goal.returns-else-not-contains
returns-else-not-contains c =
    let P : List Expected → Type 0 = λ words. list_any (λ word. ghosts.eq word c.in-Some.word) words ≡ true in
    λ before once. there c.args.dialect c.args.rules.now c.args.rule _ c.in-Some.word c.in-Some.ensures before once (subst P c.deref.ensures.value (sym c.contains.ensures.value ∙ c.if-not-contains.false))

use Rattle.std.proofs.Common.{sym, ◌∙◌}
use Rattle.std.proofs.lemmas.Bool.{eqb-true}
use Rattle.weedle_refusal.proofs.HintFacts.{all_trivia}
use Rattle.weedle_refusal.proofs.hint.stands.is_trivia.Goals as goal

pub returns : goal.returns
returns c =
    let took = c.skip_trivia.ensures in
    λ empty. all_trivia took.reads took.rest_is (eqb-true _ 0 (sym c.is_empty.ensures ∙ empty))

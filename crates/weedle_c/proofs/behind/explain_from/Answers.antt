use Rattle.std.proofs.Common.{List, ℕ, subst}
use Rattle.weedle_c.specs.Explained.{IsExplainedBehind}
use Rattle.weedle_c.proofs.behind.explain_from.Goals as goal

pub returns-in-Ok-clause-refused : goal.returns-in-Ok-clause-refused
returns-in-Ok-clause-refused c =
    let E : List ℕ → Type 0 = λ text. IsExplainedBehind text c.args.start c.args.message.now c.explain_text_from.new.message c.explain_text_from.new.answer in
    λ is. subst E c.in-Ok.ensures.cases.0 (c.explain_text_from.ensures.refused is)

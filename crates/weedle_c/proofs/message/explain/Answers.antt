use Rattle.std.proofs.Common.{List, ℕ, subst}
use Rattle.weedle_c.specs.Explained.{IsExplained}
use Rattle.weedle_c.proofs.message.explain.Goals as goal

pub returns-in-Ok-clause-refused : goal.returns-in-Ok-clause-refused
returns-in-Ok-clause-refused c =
    let E : List ℕ → Type 0 = λ text. IsExplained text c.args.message.now c.explain_text.new.message c.explain_text.new.answer in
    λ is. subst E c.in-Ok.ensures.cases.0 (c.explain_text.ensures.refused is)

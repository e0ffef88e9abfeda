use Rattle.std.proofs.Common.{List, ℕ, subst}
use Rattle.weedle_c.specs.Explained.{IsPartExplainedIn}
use Rattle.weedle_syntax.specs.declared.dialect.Dialect.{Dialect}
use Rattle.weedle_c.proofs.unread.explain_part_by.Goals as goal

pub returns-in-Ok-clause-refused : goal.returns-in-Ok-clause-refused
returns-in-Ok-clause-refused c =
    let E : Dialect → List ℕ → Type 0 = λ d text. IsPartExplainedIn d text c.args.part.now c.args.message.now c.explain_part_text_by.new.message c.explain_part_text_by.new.answer in
    λ is. subst (λ d. E d c.args.text.now) c.dialect_of.ensures.is (subst (E c.dialect_of.result) c.in-Ok.ensures.cases.0 (c.explain_part_text_by.ensures.refused is))

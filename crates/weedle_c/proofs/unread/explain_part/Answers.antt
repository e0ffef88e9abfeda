use Rattle.std.proofs.Common.{List, ℕ, subst}
use Rattle.weedle_c.specs.Explained.{IsPartExplained}
use Rattle.weedle_c.proofs.unread.explain_part.Goals as goal

pub returns-in-Ok-clause-refused : goal.returns-in-Ok-clause-refused
returns-in-Ok-clause-refused c =
    let E : List ℕ → Type 0 = λ text. IsPartExplained text c.args.part.now c.args.message.now c.explain_part_of.new.message c.explain_part_of.new.answer in
    λ is. subst E c.in-Ok.ensures.cases.0 (c.explain_part_of.ensures.refused is)

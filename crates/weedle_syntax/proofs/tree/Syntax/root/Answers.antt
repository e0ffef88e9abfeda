use Rattle.std.proofs.Common.{sym, ap, ◌∙◌}
use Rattle.weedle_syntax.specs.Dialects.{start_of}
use Rattle.weedle_syntax.specs.Syntax.{node_to}
use Rattle.weedle_syntax.proofs.StepFacts.{joined}
use Rattle.weedle_syntax.proofs.tree.Syntax.root.Goals as goal

pub returns-clause-within : goal.returns-clause-within
returns-clause-within c = rw (← c.self.view_is) (joined c.self.inside.dialect _ _ c.self.invariant.front).2.some

pub returns-clause-root : goal.returns-clause-root
returns-clause-root c =
    let j = joined c.self.inside.dialect _ _ c.self.invariant.front in
    rw (← c.self.view_is) (j.2.root ∙ sym (ap (node_to (start_of c.self.inside.dialect)) j.2.rest))

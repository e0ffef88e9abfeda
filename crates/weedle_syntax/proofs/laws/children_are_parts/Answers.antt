use Rattle.weedle_syntax.specs.declared.dialect.Dialect.TheVariants.{Weedle2}
use Rattle.weedle_syntax.proofs.InnerFacts.{children_are_parts as they_are}
use Rattle.weedle_syntax.proofs.laws.children_are_parts.Goals as goal

pub returns : goal.returns
returns c = they_are Weedle2

use Rattle.std.proofs.Common.{arith}
use Rattle.weedle_grammar.specs.declared.class.Class.TheVariants.{Name}
use Rattle.weedle_refusal.proofs.HintFacts.{run_within}
use Rattle.weedle_refusal.proofs.hint.tokens.front_of.Goals as goal

pub returns-in_default-clause-within : goal.returns-in_default-clause-within
returns-in_default-clause-within c = omega (arith, run_within Name c.args.text.now, c.run.ensures)

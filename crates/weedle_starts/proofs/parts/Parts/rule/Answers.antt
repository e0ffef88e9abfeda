use Rattle.std.proofs.Common.{◌<◌, sym, subst}
use Rattle.weedle_grammar.specs.written.Bound.{rule_count}
use Rattle.weedle_grammar.proofs.Numbers.{low_at}
use Rattle.weedle_starts.proofs.parts.Parts.rule.Goals as goal

pub rule_of-requires : goal.rule_of-requires
rule_of-requires c = low_at c.args.self.now.numbers.now c.args.i c.args.self.now.in_range

pub returns-clause-low : goal.returns-clause-low
returns-clause-low c = subst (λ n. n < rule_count) (sym c.rule_of.ensures) (low_at c.args.self.now.numbers.now c.args.i c.args.self.now.in_range)

use Rattle.std.proofs.Common.{sym, ◌∙◌}
use Rattle.weedle_grammar.proofs.WordFacts.{one_lacks, one_took, one_cut}
use Rattle.weedle_grammar.proofs.scan.after_one.Goals as goal

pub range_from-requires : goal.range_from-requires
range_from-requires c = λ positive. one_cut c.args.rule c.requires (sym c.next_is.ensures ∙ c.if-next_is.true) c.utf8.input

pub returns-then-next_is : goal.returns-then-next_is
returns-then-next_is c = one_took c.requires (sym c.next_is.ensures ∙ c.if-next_is.true) c.range_from.ensures.value

pub returns-else-next_is : goal.returns-else-next_is
returns-else-next_is c = one_lacks c.requires (sym c.next_is.ensures ∙ c.if-next_is.false)

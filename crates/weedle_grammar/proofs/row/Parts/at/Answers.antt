use Rattle.std.proofs.Common.{◌∙◌, ◌<◌, ap, sym, subst, Some}
use Rattle.std.proofs.lemmas.Option.{slice_get-get_or, slice_get_past}
use Rattle.weedle_grammar.specs.written.Bound.{rule_count}
use Rattle.weedle_grammar.proofs.Numbers.{low_at}
use Rattle.weedle_grammar.proofs.row.Parts.at.Goals as goal

pub invariant_of-result : goal.invariant_of-result
invariant_of-result c = subst (λ n. n < rule_count) (sym (c.in-Some.ensures.lookup.3.1 0)) (low_at c.args.self.now.numbers.now c.args.i c.args.self.now.in_range)

pub returns-in-Some : goal.returns-in-Some
returns-in-Some c =
    let h = c.in-Some.ensures.lookup in sym (slice_get-get_or c.args.self.now.numbers.now c.args.i 0 h.3.0 ∙ ap Some (sym (h.3.1 0)))

pub returns-in-None : goal.returns-in-None
returns-in-None c = sym (slice_get_past c.args.self.now.numbers.now c.args.i c.in-None.ensures.lookup.3)

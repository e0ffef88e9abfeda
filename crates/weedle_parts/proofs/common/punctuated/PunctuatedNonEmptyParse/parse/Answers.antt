use Rattle.weedle_parts.proofs.ListSteps.{got_non_empty, fault_non_empty}
use Rattle.weedle_base.proofs.Steps.{exit_answers}
use Rattle.weedle_parts.proofs.common.punctuated.PunctuatedNonEmptyParse.parse.Goals as goal

pub returns : goal.returns
returns g c =
    got_non_empty g.T.Parse.reading g.S.Parse.reading (λ p. p.list.items) (λ p. g.S.Default.is_default p.separator) (λ l. l.items) _ c.in_ok-rest-2.list c.in_ok-rest.ensures c.in_ok-rest-2.ensures c.in_ok-rest-3.ensures c.shrink_to_fit.ensures.items c.default-separator.ensures

pub returns-in_err-rest-2 : goal.returns-in_err-rest-2
returns-in_err-rest-2 g c = exit_answers c.from_residual-in_err-rest-2.result (fault_non_empty g.T.Parse.reading g.S.Parse.reading (λ p. p.list.items) (λ p. g.S.Default.is_default p.separator) (λ l. l.items) c.in_ok-rest.ensures c.in_err-rest-2.ensures) c.from_residual-in_err-rest-2.ensures.1

use Rattle.weedle_parts.proofs.ListSteps.{got_some, fault_some}
use Rattle.weedle_base.proofs.Steps.{exit_answers}
use Rattle.weedle_parts.proofs.common.punctuated.PunctuatedParse.parse.Goals as goal

pub returns-in_ok-rest-in-Ok : goal.returns-in_ok-rest-in-Ok
returns-in_ok-rest-in-Ok g c =
    got_some g.T.Parse.reading g.S.Parse.reading (λ p. p.list.items) (λ p. g.S.Default.is_default p.separator) (λ l. l.items) _ c.in_ok-rest-in-Ok.list c.in-Ok.ensures c.in_ok-rest-in-Ok.ensures c.shrink_to_fit.ensures.items c.default-separator.ensures

pub returns-in_err-rest-in-Ok : goal.returns-in_err-rest-in-Ok
returns-in_err-rest-in-Ok g c = exit_answers c.from_residual.result (fault_some g.T.Parse.reading g.S.Parse.reading (λ p. p.list.items) (λ p. g.S.Default.is_default p.separator) (λ l. l.items) c.in-Ok.ensures c.in_err-rest-in-Ok.ensures) c.from_residual.ensures.1

use Rattle.weedle_base.proofs.Steps.{exit_answers, fault_first, fault_second, got_pair}
use Rattle.weedle_types.proofs.PlainAttributeRules.{extended_attribute_ident_list_got, extended_attribute_ident_list_fault}
use Rattle.weedle_types.proofs.attribute.ExtendedAttributeIdentListParse.parse.Goals as goal

pub returns : goal.returns
returns c = extended_attribute_ident_list_got _ _ (got_pair _ _ c.in_ok-rest.ensures (got_pair _ _ c.in_ok-rest-2.ensures c.in_ok-rest-3.ensures))

pub returns-in_err-rest : goal.returns-in_err-rest
returns-in_err-rest c = exit_answers c.from_residual.result (extended_attribute_ident_list_fault (λ p. Unit {0}) (fault_first _ _ c.in_err-rest.ensures)) c.from_residual.ensures.1

pub returns-in_err-rest-2 : goal.returns-in_err-rest-2
returns-in_err-rest-2 c = exit_answers c.from_residual-in_err-rest-2.result (extended_attribute_ident_list_fault (λ p. Unit {0}) (fault_second _ _ c.in_ok-rest.ensures (fault_first _ _ c.in_err-rest-2.ensures))) c.from_residual-in_err-rest-2.ensures.1

pub returns-in_err-rest-3 : goal.returns-in_err-rest-3
returns-in_err-rest-3 c = exit_answers c.from_residual-in_err-rest-3.result (extended_attribute_ident_list_fault _ (fault_second _ _ c.in_ok-rest.ensures (fault_second _ _ c.in_ok-rest-2.ensures c.in_err-rest-3.ensures))) c.from_residual-in_err-rest-3.ensures.1

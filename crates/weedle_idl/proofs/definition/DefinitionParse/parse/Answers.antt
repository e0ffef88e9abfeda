-- Alternatives, each where those before it were a mismatch. Written by tools/idl_proofs.py, and not edited by hand.
use Rattle.weedle_idl.proofs.written.DefinitionRules.{definition_fault, definition_got_0, definition_got_1, definition_got_2, definition_got_3}
use Rattle.weedle_idl.proofs.definition.DefinitionParse.parse.Goals as goal
use Rattle.weedle_base.proofs.Direct.{hand_on, stop_first, stop_next, take_first, take_next}

pub returns-in-Ok : goal.returns-in-Ok
returns-in-Ok c = definition_got_0 (take_first _ _ c.in-Ok.ensures)

pub returns-in-Err-Failure : goal.returns-in-Err-Failure
returns-in-Err-Failure c = definition_fault (stop_first _ _ c.in-Err-Failure.ensures c.in-Err-Failure.field-0-is)

pub returns-in-Ok-main_definition : goal.returns-in-Ok-main_definition
returns-in-Ok-main_definition c = definition_got_1 (take_next _ _ c.in-Err-Error.ensures c.in-Err-Error.field-0-is (take_first _ _ c.in-Ok-main_definition.ensures))

pub returns-in-Err-Failure-main_definition : goal.returns-in-Err-Failure-main_definition
returns-in-Err-Failure-main_definition c = definition_fault (stop_next _ _ c.in-Err-Error.ensures c.in-Err-Error.field-0-is (stop_first _ _ c.in-Err-Failure-main_definition.ensures c.in-Err-Failure-main_definition.field-0-is))

pub returns-in-Ok-partial_definition : goal.returns-in-Ok-partial_definition
returns-in-Ok-partial_definition c = definition_got_2 (take_next _ _ c.in-Err-Error.ensures c.in-Err-Error.field-0-is (take_next _ _ c.in-Err-Error-main_definition.ensures c.in-Err-Error-main_definition.field-0-is (take_first _ _ c.in-Ok-partial_definition.ensures)))

pub returns-in-Err-Failure-partial_definition : goal.returns-in-Err-Failure-partial_definition
returns-in-Err-Failure-partial_definition c = definition_fault (stop_next _ _ c.in-Err-Error.ensures c.in-Err-Error.field-0-is (stop_next _ _ c.in-Err-Error-main_definition.ensures c.in-Err-Error-main_definition.field-0-is (stop_first _ _ c.in-Err-Failure-partial_definition.ensures c.in-Err-Failure-partial_definition.field-0-is)))

pub returns : goal.returns
returns c = hand_on c.other_definition.result (λ rest v g. definition_got_3 (take_next _ _ c.in-Err-Error.ensures c.in-Err-Error.field-0-is (take_next _ _ c.in-Err-Error-main_definition.ensures c.in-Err-Error-main_definition.field-0-is (take_next _ _ c.in-Err-Error-partial_definition.ensures c.in-Err-Error-partial_definition.field-0-is g)))) (λ e f. definition_fault (stop_next _ _ c.in-Err-Error.ensures c.in-Err-Error.field-0-is (stop_next _ _ c.in-Err-Error-main_definition.ensures c.in-Err-Error-main_definition.field-0-is (stop_next _ _ c.in-Err-Error-partial_definition.ensures c.in-Err-Error-partial_definition.field-0-is f)))) c.other_definition.ensures

-- Alternatives, each where those before it were a mismatch.
use Rattle.weedle_base.proofs.Direct.{stop_first, stop_next, take_first, take_next}
use Rattle.weedle_base.proofs.Steps.{exit_answers}
use Rattle.weedle_types.proofs.reading.plain_types.strings.Goals as goal
use Rattle.weedle_types.proofs.written.PlainTypeRules.{strings_fault, strings_got_0, strings_got_1, strings_got_2, strings_got_3}

pub returns-in-Ok-clause-reads : goal.returns-in-Ok-clause-reads
returns-in-Ok-clause-reads c = strings_got_0 (take_first _ _ c.in-Ok.ensures.reads)

pub returns-in-Err-Failure-clause-reads : goal.returns-in-Err-Failure-clause-reads
returns-in-Err-Failure-clause-reads c = strings_fault (stop_first _ _ c.in-Err-Failure.ensures.reads c.in-Err-Failure.field-0-is)

pub returns-in-Ok-word-clause-reads : goal.returns-in-Ok-word-clause-reads
returns-in-Ok-word-clause-reads c = strings_got_1 (take_next _ _ c.in-Err-Error.ensures.reads c.in-Err-Error.field-0-is (take_first _ _ c.in-Ok-word.ensures.reads))

pub returns-in-Err-Failure-word-clause-reads : goal.returns-in-Err-Failure-word-clause-reads
returns-in-Err-Failure-word-clause-reads c = strings_fault (stop_next _ _ c.in-Err-Error.ensures.reads c.in-Err-Error.field-0-is (stop_first _ _ c.in-Err-Failure-word.ensures.reads c.in-Err-Failure-word.field-0-is))

pub returns-in-Ok-word-2-clause-reads : goal.returns-in-Ok-word-2-clause-reads
returns-in-Ok-word-2-clause-reads c = strings_got_2 (take_next _ _ c.in-Err-Error.ensures.reads c.in-Err-Error.field-0-is (take_next _ _ c.in-Err-Error-word.ensures.reads c.in-Err-Error-word.field-0-is (take_first _ _ c.in-Ok-word-2.ensures.reads)))

pub returns-in-Err-Failure-word-2-clause-reads : goal.returns-in-Err-Failure-word-2-clause-reads
returns-in-Err-Failure-word-2-clause-reads c = strings_fault (stop_next _ _ c.in-Err-Error.ensures.reads c.in-Err-Error.field-0-is (stop_next _ _ c.in-Err-Error-word.ensures.reads c.in-Err-Error-word.field-0-is (stop_first _ _ c.in-Err-Failure-word-2.ensures.reads c.in-Err-Failure-word-2.field-0-is)))

pub returns-clause-reads : goal.returns-clause-reads
returns-clause-reads c = strings_got_3 (take_next _ _ c.in-Err-Error.ensures.reads c.in-Err-Error.field-0-is (take_next _ _ c.in-Err-Error-word.ensures.reads c.in-Err-Error-word.field-0-is (take_next _ _ c.in-Err-Error-word-2.ensures.reads c.in-Err-Error-word-2.field-0-is c.in_ok-rest.ensures.reads)))

pub returns-in_err-rest-clause-reads : goal.returns-in_err-rest-clause-reads
returns-in_err-rest-clause-reads c = exit_answers c.from_residual.result (strings_fault (stop_next _ _ c.in-Err-Error.ensures.reads c.in-Err-Error.field-0-is (stop_next _ _ c.in-Err-Error-word.ensures.reads c.in-Err-Error-word.field-0-is (stop_next _ _ c.in-Err-Error-word-2.ensures.reads c.in-Err-Error-word-2.field-0-is c.in_err-rest.ensures.reads)))) c.from_residual.ensures.1

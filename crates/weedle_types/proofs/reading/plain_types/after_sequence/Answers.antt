-- Alternatives, each where those before it were a mismatch.
use Rattle.weedle_base.proofs.Direct.{hand_on, stop_first, stop_next, take_first, take_next}
use Rattle.weedle_types.proofs.reading.plain_types.after_sequence.Goals as goal
use Rattle.weedle_types.proofs.written.PlainTypeRules.{after_sequence_fault, after_sequence_got_0, after_sequence_got_1, after_sequence_got_2, after_sequence_got_3}

pub returns-in-Ok-clause-reads : goal.returns-in-Ok-clause-reads
returns-in-Ok-clause-reads c = after_sequence_got_0 (take_first _ _ c.in-Ok.ensures.reads)

pub returns-in-Err-Failure-clause-reads : goal.returns-in-Err-Failure-clause-reads
returns-in-Err-Failure-clause-reads c = after_sequence_fault (stop_first _ _ c.in-Err-Failure.ensures.reads c.in-Err-Failure.field-0-is)

pub returns-in-Ok-signed_arrays-clause-reads : goal.returns-in-Ok-signed_arrays-clause-reads
returns-in-Ok-signed_arrays-clause-reads c = after_sequence_got_1 (take_next _ _ c.in-Err-Error.ensures.reads c.in-Err-Error.field-0-is (take_first _ _ c.in-Ok-signed_arrays.ensures.reads))

pub returns-in-Err-Failure-signed_arrays-clause-reads : goal.returns-in-Err-Failure-signed_arrays-clause-reads
returns-in-Err-Failure-signed_arrays-clause-reads c = after_sequence_fault (stop_next _ _ c.in-Err-Error.ensures.reads c.in-Err-Error.field-0-is (stop_first _ _ c.in-Err-Failure-signed_arrays.ensures.reads c.in-Err-Failure-signed_arrays.field-0-is))

pub returns-in-Ok-unsigned_arrays-clause-reads : goal.returns-in-Ok-unsigned_arrays-clause-reads
returns-in-Ok-unsigned_arrays-clause-reads c = after_sequence_got_2 (take_next _ _ c.in-Err-Error.ensures.reads c.in-Err-Error.field-0-is (take_next _ _ c.in-Err-Error-signed_arrays.ensures.reads c.in-Err-Error-signed_arrays.field-0-is (take_first _ _ c.in-Ok-unsigned_arrays.ensures.reads)))

pub returns-in-Err-Failure-unsigned_arrays-clause-reads : goal.returns-in-Err-Failure-unsigned_arrays-clause-reads
returns-in-Err-Failure-unsigned_arrays-clause-reads c = after_sequence_fault (stop_next _ _ c.in-Err-Error.ensures.reads c.in-Err-Error.field-0-is (stop_next _ _ c.in-Err-Error-signed_arrays.ensures.reads c.in-Err-Error-signed_arrays.field-0-is (stop_first _ _ c.in-Err-Failure-unsigned_arrays.ensures.reads c.in-Err-Failure-unsigned_arrays.field-0-is)))

pub returns-clause-reads : goal.returns-clause-reads
returns-clause-reads c = hand_on c.float_arrays.result (λ rest v g. after_sequence_got_3 (take_next _ _ c.in-Err-Error.ensures.reads c.in-Err-Error.field-0-is (take_next _ _ c.in-Err-Error-signed_arrays.ensures.reads c.in-Err-Error-signed_arrays.field-0-is (take_next _ _ c.in-Err-Error-unsigned_arrays.ensures.reads c.in-Err-Error-unsigned_arrays.field-0-is g)))) (λ e f. after_sequence_fault (stop_next _ _ c.in-Err-Error.ensures.reads c.in-Err-Error.field-0-is (stop_next _ _ c.in-Err-Error-signed_arrays.ensures.reads c.in-Err-Error-signed_arrays.field-0-is (stop_next _ _ c.in-Err-Error-unsigned_arrays.ensures.reads c.in-Err-Error-unsigned_arrays.field-0-is f)))) c.float_arrays.ensures.reads

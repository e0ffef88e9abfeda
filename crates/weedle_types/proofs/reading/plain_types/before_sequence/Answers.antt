-- Alternatives, each where those before it were a mismatch.
use Rattle.weedle_base.proofs.Direct.{hand_on, stop_first, stop_next, take_first, take_next}
use Rattle.weedle_types.proofs.reading.plain_types.before_sequence.Goals as goal
use Rattle.weedle_types.proofs.written.PlainTypeRules.{before_sequence_fault, before_sequence_got_0, before_sequence_got_1}

pub returns-in-Ok-clause-reads : goal.returns-in-Ok-clause-reads
returns-in-Ok-clause-reads c = before_sequence_got_0 (take_first _ _ c.in-Ok.ensures.reads)

pub returns-in-Err-Failure-clause-reads : goal.returns-in-Err-Failure-clause-reads
returns-in-Err-Failure-clause-reads c = before_sequence_fault (stop_first _ _ c.in-Err-Failure.ensures.reads c.in-Err-Failure.field-0-is)

pub returns-clause-reads : goal.returns-clause-reads
returns-clause-reads c = hand_on c.strings.result (λ rest v g. before_sequence_got_1 (take_next _ _ c.in-Err-Error.ensures.reads c.in-Err-Error.field-0-is g)) (λ e f. before_sequence_fault (stop_next _ _ c.in-Err-Error.ensures.reads c.in-Err-Error.field-0-is f)) c.strings.ensures.reads

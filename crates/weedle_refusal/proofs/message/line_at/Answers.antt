use Rattle.weedle_refusal.proofs.LineAtFacts.{end_boundary, start_boundary}
use Rattle.weedle_refusal.proofs.message.line_at.Goals as goal

pub range-requires-clause-start_boundary : goal.range-requires-clause-start_boundary
range-requires-clause-start_boundary c = λ some. rw (c.line_start-start.ensures.value, c.as_bytes-bytes.ensures.value) (start_boundary c.args.text.now c.args.place c.utf8.text c.requires)

pub range-requires-clause-end_boundary : goal.range-requires-clause-end_boundary
range-requires-clause-end_boundary c = rw (c.before_return-end.ensures, c.line_start-start.ensures.value, c.line_end.ensures.value, c.as_bytes-bytes.ensures.value) (end_boundary c.args.text.now c.args.place c.utf8.text c.requires)

use Rattle.std.proofs.Common.{refl}
use Rattle.weedle_grammar.specs.written.Table.Leaves.{POINT_AFTER_DIGITS}
use Rattle.weedle_grammar.proofs.Suffix.{fails, no_node}
use Rattle.weedle_grammar.proofs.SilentRules.{exit, along, last, lost, took_seq}
use Rattle.weedle_parts.proofs.literal.float.after_digits_point.Goals as goal

pub returns-in_err-whole : goal.returns-in_err-whole
returns-in_err-whole c = exit POINT_AFTER_DIGITS c.from_residual.ensures (no_node refl (fails c.in_err-whole.ensures))

pub returns-in_err-point : goal.returns-in_err-point
returns-in_err-point c = exit POINT_AFTER_DIGITS c.from_residual-in_err-point.ensures (no_node refl (lost c.in_ok-whole.ensures (fails c.in_err-point.ensures)))

pub returns : goal.returns
returns c = took_seq refl refl (along c.in_ok-whole.ensures (along c.in_ok-point.ensures (last c.after_run.ensures)))

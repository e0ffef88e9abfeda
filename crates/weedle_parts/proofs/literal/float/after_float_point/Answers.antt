use Rattle.std.proofs.Common.{refl}
use Rattle.weedle_grammar.specs.written.Table.Leaves.{POINT_FORM}
use Rattle.weedle_grammar.proofs.Suffix.{fails, no_node}
use Rattle.weedle_grammar.proofs.SilentRules.{exit, along, last, took_seq}
use Rattle.weedle_parts.proofs.literal.float.after_float_point.Goals as goal

pub returns-in_err-number : goal.returns-in_err-number
returns-in_err-number c = exit POINT_FORM c.from_residual.ensures (no_node refl (fails c.in_err-number.ensures))

pub returns : goal.returns
returns c = took_seq refl refl (along c.in_ok-number.ensures (last c.skip_exponent.ensures))

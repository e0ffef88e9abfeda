use Rattle.std.proofs.Common.{refl}
use Rattle.weedle_grammar.proofs.Suffix.{fails, no_node}
use Rattle.weedle_grammar.specs.written.Table.Leaves.{DIGITS, POINT_BEFORE_DIGITS}
use Rattle.weedle_grammar.proofs.SilentRules.{exit, along, last, lost, took_seq, decided}
use Rattle.weedle_parts.proofs.literal.float.after_point_digits.Goals as goal

pub returns-in_err-point : goal.returns-in_err-point
returns-in_err-point c = exit POINT_BEFORE_DIGITS c.from_residual.ensures (no_node refl (lost c.after_run-whole.ensures (fails c.in_err-point.ensures)))

pub returns : goal.returns
returns c =
    decided POINT_BEFORE_DIGITS DIGITS
    (λ rest m. took_seq refl refl (along c.after_run-whole.ensures (along c.in_ok-point.ensures (last m))))
    (λ d. no_node refl (lost c.after_run-whole.ensures (lost c.in_ok-point.ensures (fails d))))
    c.after_digits.result c.after_digits.ensures

use Rattle.std.proofs.Common.{refl}
use Rattle.weedle_grammar.proofs.Suffix.{fails, no_node}
use Rattle.weedle_grammar.specs.written.Table.Leaves.{DIGITS, EXPONENT}
use Rattle.weedle_grammar.proofs.SilentRules.{exit, along, last, lost, took_seq, decided}
use Rattle.weedle_parts.proofs.literal.float.after_exponent.Goals as goal

pub returns-in_err-letter : goal.returns-in_err-letter
returns-in_err-letter c = exit EXPONENT c.from_residual.ensures (no_node refl (fails c.in_err-letter.ensures))

pub returns : goal.returns
returns c =
    decided EXPONENT DIGITS
    (λ rest m. took_seq refl refl (along c.in_ok-letter.ensures (along c.skip_sign-unsigned.ensures (last m))))
    (λ d. no_node refl (lost c.in_ok-letter.ensures (lost c.skip_sign-unsigned.ensures (fails d))))
    c.after_digits.result c.after_digits.ensures

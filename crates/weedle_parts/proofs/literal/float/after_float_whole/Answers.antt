use Rattle.std.proofs.Common.{refl}
use Rattle.weedle_grammar.proofs.Suffix.{fails, no_node}
use Rattle.weedle_grammar.specs.written.Table.Leaves.{EXPONENT, EXPONENT_FORM}
use Rattle.weedle_grammar.proofs.SilentRules.{exit, along, last, lost, took_seq, decided}
use Rattle.weedle_parts.proofs.literal.float.after_float_whole.Goals as goal

pub returns-in_err-whole : goal.returns-in_err-whole
returns-in_err-whole c = exit EXPONENT_FORM c.from_residual.ensures (no_node refl (fails c.in_err-whole.ensures))

pub returns : goal.returns
returns c =
    decided EXPONENT_FORM EXPONENT
    (λ rest m. took_seq refl refl (along c.in_ok-whole.ensures (last m)))
    (λ d. no_node refl (lost c.in_ok-whole.ensures (fails d)))
    c.after_exponent.result c.after_exponent.ensures

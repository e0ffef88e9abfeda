use Rattle.std.proofs.Common.{refl}
use Rattle.weedle_grammar.proofs.Suffix.{fails, no_node}
use Rattle.weedle_grammar.specs.written.Table.Leaves.{FLOAT_FORM, FLOAT_VALUE_LIT_TEXT}
use Rattle.weedle_grammar.proofs.SilentRules.{along, last, lost, took_seq, decided}
use Rattle.weedle_parts.proofs.literal.float.after_float.Goals as goal

pub returns : goal.returns
returns c =
    decided FLOAT_VALUE_LIT_TEXT FLOAT_FORM
    (λ rest m. took_seq refl refl (along c.skip_minus-unsigned.ensures (last m)))
    (λ d. no_node refl (lost c.skip_minus-unsigned.ensures (fails d)))
    c.after_float_form.result c.after_float_form.ensures

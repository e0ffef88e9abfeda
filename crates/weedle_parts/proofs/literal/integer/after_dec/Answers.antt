use Rattle.std.proofs.Common.{refl}
use Rattle.weedle_grammar.specs.written.Table.Leaves.{DEC_LIT_TEXT}
use Rattle.weedle_grammar.proofs.Suffix.{fails, no_node}
use Rattle.weedle_grammar.proofs.SilentRules.{exit, along, last, lost, took_seq}
use Rattle.weedle_parts.proofs.literal.integer.after_dec.Goals as goal

pub returns-in_err-first : goal.returns-in_err-first
returns-in_err-first c = exit DEC_LIT_TEXT c.from_residual.ensures (no_node refl (lost c.skip_minus-unsigned.ensures (fails c.in_err-first.ensures)))

pub returns : goal.returns
returns c = took_seq refl refl (along c.skip_minus-unsigned.ensures (along c.in_ok-first.ensures (last c.after_run.ensures)))

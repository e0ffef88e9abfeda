use Rattle.std.proofs.Common.{refl}
use Rattle.weedle_grammar.specs.written.Table.Leaves.{HEX_LIT_TEXT}
use Rattle.weedle_grammar.proofs.Suffix.{fails, no_node}
use Rattle.weedle_grammar.proofs.SilentRules.{exit, along, last, lost, took_seq}
use Rattle.weedle_parts.proofs.literal.integer.after_hex.Goals as goal

pub returns-in_err-zero : goal.returns-in_err-zero
returns-in_err-zero c = exit HEX_LIT_TEXT c.from_residual.ensures (no_node refl (lost c.skip_minus-unsigned.ensures (fails c.in_err-zero.ensures)))

pub returns-in_err-letter : goal.returns-in_err-letter
returns-in_err-letter c = exit HEX_LIT_TEXT c.from_residual-in_err-letter.ensures (no_node refl (lost c.skip_minus-unsigned.ensures (lost c.in_ok-zero.ensures (fails c.in_err-letter.ensures))))

pub returns-in_err-first : goal.returns-in_err-first
returns-in_err-first c = exit HEX_LIT_TEXT c.from_residual-in_err-first.ensures (no_node refl (lost c.skip_minus-unsigned.ensures (lost c.in_ok-zero.ensures (lost c.in_ok-letter.ensures (fails c.in_err-first.ensures)))))

pub returns : goal.returns
returns c = took_seq refl refl (along c.skip_minus-unsigned.ensures (along c.in_ok-zero.ensures (along c.in_ok-letter.ensures (along c.in_ok-first.ensures (last c.after_run.ensures)))))

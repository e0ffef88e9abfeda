use Rattle.std.proofs.Common.{refl}
use Rattle.weedle_grammar.specs.written.Table.Leaves.{OPT_BYTES_MINUS}
use Rattle.weedle_grammar.proofs.SilentRules.{took_opt}
use Rattle.weedle_parts.proofs.literal.integer.skip_minus.Goals as goal

pub returns : goal.returns
returns c = rw c.unwrap_or.ensures (took_opt OPT_BYTES_MINUS refl refl c.args.input c.after_word.result c.after_word.ensures)

use Rattle.std.proofs.Common.{refl}
use Rattle.weedle_grammar.specs.written.Table.Leaves.{OPT_EXPONENT}
use Rattle.weedle_grammar.proofs.SilentRules.{took_opt}
use Rattle.weedle_parts.proofs.literal.float.skip_exponent.Goals as goal

pub returns : goal.returns
returns c = rw c.unwrap_or.ensures (took_opt OPT_EXPONENT refl refl c.args.input c.after_exponent.result c.after_exponent.ensures)

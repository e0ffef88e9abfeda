use Rattle.std.proofs.Common.{refl}
use Rattle.weedle_grammar.specs.written.Table.Leaves.{OPT_ONE_OF_SIGN}
use Rattle.weedle_grammar.proofs.SilentRules.{took_opt}
use Rattle.weedle_parts.proofs.literal.float.skip_sign.Goals as goal

pub returns : goal.returns
returns c = rw c.unwrap_or.ensures (took_opt OPT_ONE_OF_SIGN refl refl c.args.input c.after_one.result c.after_one.ensures)

use Rattle.std.proofs.Common.{sym, ◌∙◌}
use Rattle.weedle_grammar.proofs.Leaves.{begins_le}
use Rattle.weedle_grammar.proofs.leaf_ends.take_bytes.Goals as goal

pub returns-then-begins-clause-within : goal.returns-then-begins-clause-within
returns-then-begins-clause-within c = begins_le c.args.bytes.now c.args.left.now (sym c.begins.ensures ∙ c.if-begins.true)

use Rattle.std.proofs.Common.{◌≤◌, arith}
use Rattle.weedle_grammar.specs.written.Bound.{table_count}
use Rattle.weedle_print.proofs.RuleFacts.{none_reads}
use Rattle.weedle_print.proofs.reserved.is_read.Goals as goal

-- none of the rules reads just the text
pub returns : goal.returns
returns c =
    let past : table_count ≤ c.rules.number = omega (arith, c.rules-test.false) in
    (λ t. cc, λ read. absurd (none_reads c.rules.number past c.rules.invariant read))

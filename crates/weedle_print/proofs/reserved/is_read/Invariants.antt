use Rattle.std.proofs.Common.{◌≢◌, ℕ, ◌<◌}
use Rattle.weedle_grammar.specs.Rows.{Bytes}
use Rattle.weedle_grammar.specs.written.Table.{row_of}
use Rattle.weedle_print.proofs.reserved.is_read.Given as goal

-- no rule before reads just the text
abbrev pub invariant-rules : goal.invariant-rules
invariant-rules l = (rule : ℕ) → rule < l.number → row_of rule ≢ Bytes l.fn.text

-- Rows that read just a text.
use Rattle.std.proofs.Common.{◌≢◌, ℕ, ◌<◌, ◌≤◌, List, arith}
use Rattle.weedle_grammar.specs.Rows.{Bytes}
use Rattle.weedle_grammar.specs.written.Bound.{table_count}
use Rattle.weedle_grammar.specs.written.Table.{row_of}
use Rattle.weedle_print.specs.Reserved.{IsRead}

-- no rule of weedle2's below n reads just the text, and there are no others of weedle2's
pub none_reads : {bytes : List ℕ} (n : ℕ) → table_count ≤ n → ((r : ℕ) → r < n → row_of r ≢ Bytes bytes) → IsRead bytes → ⊥
none_reads n past none read = let low = read.1 in none read.0 (omega (arith, past, low)) read.2

-- What is asked for where a rule of the table is read is a rule of the table.
use Rattle.std.proofs.Common.{◌≡◌, ℕ, ◌<◌, List, sym, subst, arith}
use Rattle.weedle_grammar.specs.written.Bound.{table_count}
use Rattle.weedle_grammar.specs.written.Table.Definitions.{DEFINITIONS}
use Rattle.weedle_starts.proofs.TableFacts.{tries_low}
use Rattle.weedle_memo.specs.Wanted.{Wanted, WantedFrom, at_first, by}

pub wanted_low : {text : List ℕ} {first start x q : ℕ} → first < table_count → WantedFrom text first start x q → x < table_count
wanted_low l (at_first s) = subst (λ z. z < table_count) (sym s.0) l
wanted_low {text} l (by w d t) = tries_low text _ _ (wanted_low l w) t

-- where definitions are read at the front
pub definitions_low : {text : List ℕ} {x q : ℕ} → Wanted text x q → x < table_count
definitions_low w = wanted_low (omega arith) w

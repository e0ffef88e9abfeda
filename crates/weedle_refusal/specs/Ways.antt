-- What the marking knows of a rule: its row without what a row without parts reads.
use Rattle.std.specs.Prelude.{◌≡◌, ◌<◌, ℕ, List, true, slice_index_or}
use Rattle.weedle_grammar.specs.Rows.{Row, Seq, First, Opt, Many, ListOf, List1, Tail, If}
use Rattle.weedle_grammar.specs.View.{numbers_of}
use Rattle.weedle_grammar.specs.written.Bound.{rule_count}
use Rattle.weedle_grammar.specs.written.Table.{row_of}
use Rattle.weedle_starts.specs.Tries.{has_no_parts}
use Rattle.weedle_grammar.specs.declared.row.Parts.{Parts}
use Rattle.weedle_refusal.specs.declared.diagnose.ways.Way.{Way}
use Rattle.weedle_refusal.specs.declared.diagnose.ways.Way.TheVariants as way

-- the way is that of the row, and its numbers are rules'
abbrev pub IsWay : Way Parts → Row → Type 0
IsWay way.Plain row = has_no_parts row ≡ true
IsWay (way.Seq parts) row = row ≡ Seq (numbers_of parts)
IsWay (way.First parts) row = row ≡ First (numbers_of parts)
IsWay (way.Opt x) row = (x < rule_count) × (row ≡ Opt x)
IsWay (way.Many x) row = (x < rule_count) × (row ≡ Many x)
IsWay (way.List x t) row = (x < rule_count) × (t < rule_count) × (row ≡ ListOf x t)
IsWay (way.List1 x t) row = (x < rule_count) × (t < rule_count) × (row ≡ List1 x t)
IsWay (way.Tail x s) row = (x < rule_count) × (s < rule_count) × (row ≡ Tail x s)
IsWay (way.If parts k y) row = (y < rule_count) × (row ≡ If (numbers_of parts) k y)

-- each rule below n has its way at its number
abbrev pub AreWays : List (Way Parts) → ℕ → Type 0
AreWays ways n = (r : ℕ) (other : Way Parts) → r < n → IsWay (slice_index_or ways r other) (row_of r)

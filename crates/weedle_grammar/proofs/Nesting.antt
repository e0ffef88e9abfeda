-- The parts of a reading, at the grammar's table.
use Rattle.std.proofs.Common.{ℕ, List}
use Rattle.weedle_grammar.specs.written.Table.{webidl}
use Rattle.weedle_grammar.specs.Nesting.{Part, HasOneAtStart, IsNested}
use Rattle.weedle_grammar.proofs.Takes.{takes}
use Rattle.weedle_grammar.proofs.Checked.{ranked}
use Rattle.weedle_grammar.proofs.Nesting.Start.{one, few_low}
use Rattle.weedle_grammar.proofs.Nesting.Depth.{nested as nested_by}
pub mod Order
pub mod Start
pub mod Depth

-- of the parts of what a rule gives at most one begins where the rule begins and takes text, and its rule has a smaller number
pub one_at_start : (text : List ℕ) (r p : ℕ) → HasOneAtStart text r p
one_at_start text r p ts e d = few_low r _ (one webidl text takes ranked d)

-- parts that begin at one place and take text lie in one another and are of different rules
pub nested : (text : List ℕ) (whole : Part webidl text) → IsNested whole
nested text whole a b = nested_by webidl text takes ranked a b whole

use Rattle.std.proofs.Common.{ℕ, drop}
use Rattle.weedle_starts.specs.Tries.{TriesInTurn}
use Rattle.weedle_syntax.specs.Table.{IsWanted}
use Rattle.weedle_grammar.specs.View.{numbers_of}
use Rattle.weedle_syntax.proofs.LayFacts.{Laying}
use Rattle.weedle_syntax.proofs.walk.parts.in_turn.Given as goal

abbrev pub invariant-loop-i : goal.invariant-loop-i
invariant-loop-i l = Laying l.table.text (numbers_of l.fn.parts) l.fn.depth l.fn.place (drop l.i (numbers_of l.fn.parts)) l.at l.inner.items × ((x q : ℕ) → TriesInTurn l.table.text (drop l.i (numbers_of l.fn.parts)) l.at x q → IsWanted l.table x q)

use Rattle.std.proofs.Common.{ℕ, drop}
use Rattle.weedle_starts.specs.Tries.{TriesByChoice}
use Rattle.weedle_syntax.specs.Table.{IsWanted}
use Rattle.weedle_grammar.specs.View.{numbers_of}
use Rattle.weedle_syntax.proofs.LayFacts.{Choosing}
use Rattle.weedle_syntax.proofs.walk.parts.by_choice.Given as goal

abbrev pub invariant-loop-i : goal.invariant-loop-i
invariant-loop-i l = Choosing l.table.text (numbers_of l.fn.choices) l.fn.depth l.fn.node.start l.fn.node.end (drop l.i (numbers_of l.fn.choices)) l.inner.items
    × ((x q : ℕ) → TriesByChoice l.table.text (drop l.i (numbers_of l.fn.choices)) l.fn.node.start x q → IsWanted l.table x q)

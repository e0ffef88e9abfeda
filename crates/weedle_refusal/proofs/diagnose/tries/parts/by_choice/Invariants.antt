use Rattle.std.proofs.Common.{drop}
use Rattle.weedle_grammar.specs.View.{numbers_of}
use Rattle.weedle_starts.specs.Tries.{TriesByChoice}
use Rattle.weedle_refusal.proofs.AddingFacts.{Going}
use Rattle.weedle_refusal.proofs.diagnose.tries.parts.by_choice.Given as goal

abbrev pub invariant-loop-i : goal.invariant-loop-i
invariant-loop-i l =
    Going l.fn.last l.fn.marks l.marks (TriesByChoice l.ends.text (numbers_of l.fn.parts) l.fn.place) (TriesByChoice l.ends.text (drop l.i (numbers_of l.fn.parts)) l.fn.place)

use Rattle.std.proofs.Common.{length, ◌-◌, ◌≡◌, ◌≤◌, ℕ, List, drop}
use Rattle.weedle_formatter.specs.Words.{words_of}
use Rattle.weedle_formatter.proofs.words.next_word.Given as goal

abbrev pub invariant-loop-at : goal.invariant-loop-at
invariant-loop-at l = (l.fn.from ≤ l.at) × (l.at ≤ length l.nodes) × ((text : List ℕ) → words_of text (drop l.fn.from l.nodes) ≡ words_of text (drop l.at l.nodes))

abbrev pub decreases-loop-at : goal.decreases-loop-at
decreases-loop-at l = length l.nodes - l.at

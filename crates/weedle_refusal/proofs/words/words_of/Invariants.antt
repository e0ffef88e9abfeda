use Rattle.std.specs.Prelude.{map, take}
use Rattle.std.specs.List.{filter_map}
use Rattle.weedle_refusal.specs.Words.{IsEachOnce, word_for, word_view}
use Rattle.weedle_refusal.proofs.words.words_of.Given as goal

-- the words so far are those for the rules so far, each once
abbrev pub invariant-loop-rule : goal.invariant-loop-rule
invariant-loop-rule l = IsEachOnce (filter_map (word_for l.fn.dialect l.rules) (take l.rule-index l.rules)) (map word_view l.words.items)

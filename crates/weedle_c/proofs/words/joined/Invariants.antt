use Rattle.std.proofs.Common.{string_bytes}
use Rattle.weedle_c.proofs.WordFacts.{HasWords}
use Rattle.weedle_c.proofs.words.joined.Given as goal

-- the text has the words so far
abbrev pub invariant-loop-word : goal.invariant-loop-word
invariant-loop-word l = HasWords l.expected (string_bytes l.text) l.word-index

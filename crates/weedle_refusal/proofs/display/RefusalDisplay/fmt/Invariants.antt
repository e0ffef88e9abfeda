use Rattle.std.proofs.Common.{◌≡◌, List, ℕ, ◌++◌, map, drop}
use Rattle.std.specs.Fmt.{HasWritten, IsPlainFormatter}
use Rattle.weedle_refusal.specs.Texts.{in_a_row, word_text}
use Rattle.weedle_refusal.proofs.TextFacts.{from, unshown}
use Rattle.weedle_refusal.proofs.display.RefusalDisplay.fmt.Given as goal

-- what is written, and what is from the next word on, are the words in a row
abbrev pub invariant-loop-at : goal.invariant-loop-at
invariant-loop-at g l =
    let texts = map word_text l.words ++ unshown l.more in
    IsPlainFormatter l.initial.f
    → (done : List ℕ) × HasWritten g.W.Write.write_str_gives l.initial.f done l.f × (done ++ from l.at (drop l.at texts) ≡ in_a_row texts)

-- Texts whose nodes are known, and that say the same.
use Rattle.std.proofs.Common.{◌≡◌, ◌≤◌, List, ℕ, length, refl}
use Rattle.weedle_c.specs.Answers.{HasTreeIn}
use Rattle.weedle_c.specs.declared.reader.WeedleAnswer.{WeedleAnswer}
use Rattle.weedle_c.proofs.TreeFacts.{has_tree}
use Rattle.weedle_formatter.specs.Words.{SaysTheSameIn, words_of}
use Rattle.weedle_syntax.specs.Dialects.{start_of}
use Rattle.weedle_syntax.specs.Syntax.{IsRuleFront, rest_of}
use Rattle.weedle_syntax.specs.declared.dialect.Dialect.{Dialect}
use Rattle.weedle_syntax.specs.declared.node.Node.{Node}

-- the answer that has these nodes
abbrev answer_of : List Node → WeedleAnswer
answer_of ns = record { count = length ns; rest = rest_of ns }

pub says_the_same : (d : Dialect) {raw out : List ℕ} {ns ms : List Node} → IsRuleFront raw (start_of d) ns → length raw ≤ rest_of ns → IsRuleFront out (start_of d) ms → length out ≤ rest_of ms
    → words_of raw ns ≡ words_of out ms → SaysTheSameIn d raw out
says_the_same d {raw} {out} {ns} {ms} front done other all same =
    let a : HasTreeIn d raw (answer_of ns) ns = has_tree d front done refl refl in
    let b : HasTreeIn d out (answer_of ms) ms = has_tree d other all refl refl in
    record { raw_whole = a.whole; out_whole = b.whole; raw_nodes = ns; out_nodes = ms; raw_is = a.is_syntax; out_is = b.is_syntax; same = same }

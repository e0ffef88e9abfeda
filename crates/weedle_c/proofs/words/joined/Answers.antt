use Rattle.std.proofs.Common.{◌<◌, length, arith, string_bytes}
use Rattle.weedle_c.proofs.WordFacts.{words_more}
use Rattle.weedle_refusal.specs.declared.expected.Expected.TheVariants as word
use Rattle.weedle_c.proofs.words.joined.Goals as goal

pub loop-word-preserved : goal.loop-word-preserved
loop-word-preserved c =
    let words = c.args.expected.now in
    let within : c.loop-word.word-index < length words = omega arith in
    words_more c.loop-word.invariant word.Type (string_bytes c.add_word.new.text) within c.in_ok-add_word.ensures

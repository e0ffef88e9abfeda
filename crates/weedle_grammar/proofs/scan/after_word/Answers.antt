use Rattle.weedle_grammar.proofs.WordFacts.{word_trial}
use Rattle.weedle_grammar.proofs.scan.after_word.Goals as goal

pub returns : goal.returns
returns c = word_trial c.args.rule c.args.input.now c.requires c.strip_prefix.result c.strip_prefix.ensures.cases

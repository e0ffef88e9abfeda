use Rattle.weedle_grammar.proofs.WordFacts.{taken_cut}
use Rattle.weedle_grammar.proofs.scan.taken.Goals as goal

pub range-requires-clause-end_boundary : goal.range-requires-clause-end_boundary
range-requires-clause-end_boundary c = taken_cut c.utf8.start c.requires

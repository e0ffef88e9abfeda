use Rattle.weedle_syntax.proofs.EachFacts.{each_is_read}
use Rattle.weedle_syntax.proofs.laws.each_is_read.Goals as goal

pub returns : goal.returns
returns c = λ text ns u f. each_is_read text u f.0 ns f.1 f.2

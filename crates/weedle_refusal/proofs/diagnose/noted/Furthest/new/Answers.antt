use Rattle.std.proofs.Common.{refl}
use Rattle.weedle_refusal.proofs.BitFacts.{clear_words}
use Rattle.weedle_refusal.proofs.diagnose.noted.Furthest.new.Goals as goal

pub returns-clause-none : goal.returns-clause-none
returns-clause-none c = clear_words 9 _ refl

use Rattle.std.proofs.Common.{refl, arith}
use Rattle.weedle_grammar.specs.written.Table.TodayWords.{TODAY_DEFAULT_VALUE}
use Rattle.weedle_refusal.specs.declared.today_starts.TheConstants.{TODAY_DEFAULT_VALUES}
use Rattle.weedle_refusal.proofs.EmptyFacts.{starts_are}
use Rattle.weedle_refusal.proofs.laws.values_of_today.Goals as goal

pub returns : goal.returns
returns c = starts_are TODAY_DEFAULT_VALUE TODAY_DEFAULT_VALUES.now (omega arith) refl refl

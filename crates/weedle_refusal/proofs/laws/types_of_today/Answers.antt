use Rattle.std.proofs.Common.{refl, arith}
use Rattle.weedle_grammar.specs.written.Table.TodayTypes.{TODAY_NON_ANY_TYPE, TODAY_TYPE}
use Rattle.weedle_grammar.specs.written.Table.TodayWords.{TODAY_CONST_TYPE}
use Rattle.weedle_refusal.specs.declared.today_starts.TheConstants.{TODAY_TYPES, TODAY_TYPES_BUT_ANY, TODAY_CONST_TYPES}
use Rattle.weedle_refusal.proofs.EmptyFacts.{starts_are}
use Rattle.weedle_refusal.proofs.laws.types_of_today.Goals as goal

pub returns-clause-any : goal.returns-clause-any
returns-clause-any c = starts_are TODAY_TYPE TODAY_TYPES.now (omega arith) refl refl

pub returns-clause-but_any : goal.returns-clause-but_any
returns-clause-but_any c = starts_are TODAY_NON_ANY_TYPE TODAY_TYPES_BUT_ANY.now (omega arith) refl refl

pub returns-clause-of_constants : goal.returns-clause-of_constants
returns-clause-of_constants c = starts_are TODAY_CONST_TYPE TODAY_CONST_TYPES.now (omega arith) refl refl

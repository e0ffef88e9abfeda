use Rattle.std.proofs.Common.{refl, arith}
use Rattle.weedle_grammar.specs.written.Table.SimpleTypes.{CONST_TYPE}
use Rattle.weedle_grammar.specs.written.Table.Types.{NON_ANY_TYPE, TYPE}
use Rattle.weedle_refusal.specs.declared.starts.TheConstants.{TYPES, TYPES_BUT_ANY, CONST_TYPES}
use Rattle.weedle_refusal.proofs.EmptyFacts.{starts_are}
use Rattle.weedle_refusal.proofs.laws.types.Goals as goal

pub returns-clause-any : goal.returns-clause-any
returns-clause-any c = starts_are TYPE TYPES.now (omega arith) refl refl

pub returns-clause-but_any : goal.returns-clause-but_any
returns-clause-but_any c = starts_are NON_ANY_TYPE TYPES_BUT_ANY.now (omega arith) refl refl

pub returns-clause-of_constants : goal.returns-clause-of_constants
returns-clause-of_constants c = starts_are CONST_TYPE CONST_TYPES.now (omega arith) refl refl

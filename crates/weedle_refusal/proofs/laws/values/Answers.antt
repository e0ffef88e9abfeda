use Rattle.std.proofs.Common.{refl, arith}
use Rattle.weedle_grammar.specs.written.Table.Literals.{CONST_VALUE, DEFAULT_VALUE}
use Rattle.weedle_refusal.specs.declared.starts.TheConstants.{CONST_VALUES, DEFAULT_VALUES}
use Rattle.weedle_refusal.proofs.EmptyFacts.{starts_are}
use Rattle.weedle_refusal.proofs.laws.values.Goals as goal

pub returns-clause-of_defaults : goal.returns-clause-of_defaults
returns-clause-of_defaults c = starts_are DEFAULT_VALUE DEFAULT_VALUES.now (omega arith) refl refl

pub returns-clause-of_constants : goal.returns-clause-of_constants
returns-clause-of_constants c = starts_are CONST_VALUE CONST_VALUES.now (omega arith) refl refl

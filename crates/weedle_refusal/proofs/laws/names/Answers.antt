use Rattle.std.proofs.Common.{refl, arith}
use Rattle.weedle_grammar.specs.written.Table.Leaves.{IDENTIFIER}
use Rattle.weedle_refusal.specs.declared.starts.TheConstants.{NAMES}
use Rattle.weedle_refusal.proofs.EmptyFacts.{starts_are}
use Rattle.weedle_refusal.proofs.laws.names.Goals as goal

pub returns : goal.returns
returns c = starts_are IDENTIFIER NAMES.now (omega arith) refl refl

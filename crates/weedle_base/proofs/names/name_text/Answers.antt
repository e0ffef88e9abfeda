use Rattle.std.proofs.Common.{refl}
use Rattle.weedle_grammar.proofs.Suffix.{fails, no_node}
use Rattle.weedle_grammar.proofs.SilentRules.{along, last, took_seq}
use Rattle.weedle_base.proofs.names.name_text.Goals as goal

pub returns-in_err-first : goal.returns-in_err-first
returns-in_err-first c = let e = c.from_residual.ensures in rw e (no_node refl (fails c.in_err-first.ensures))

pub taken-requires : goal.taken-requires
taken-requires c = took_seq refl refl (along c.in_ok-first.ensures (last c.after_run-rest.ensures))

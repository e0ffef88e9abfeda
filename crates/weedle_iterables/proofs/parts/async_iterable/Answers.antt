use Rattle.std.proofs.Common.{refl}
use Rattle.weedle_base.proofs.RuleFacts.{mark_rule, pair_rule}
use Rattle.weedle_iterables.proofs.parts.async_iterable.Goals as goal
use Rattle.weedle_grammar.specs.written.Table.InterfaceMembers.{ASYNC_ITERABLE}
use Rattle.weedle_grammar.specs.written.Table.Keywords.{ASYNC, ITERABLE}
use Rattle.weedle_types.proofs.SharedRules.{answers_rule}

pub returns : goal.returns
returns c = answers_rule _ (pair_rule (mark_rule ASYNC) (mark_rule ITERABLE) ASYNC_ITERABLE refl refl) _ c.parse.ensures

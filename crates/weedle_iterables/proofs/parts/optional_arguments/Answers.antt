use Rattle.std.proofs.Common.{refl}
use Rattle.weedle_base.proofs.RuleFacts.{option_rule, own_rule}
use Rattle.weedle_iterables.proofs.parts.optional_arguments.Goals as goal
use Rattle.weedle_grammar.specs.written.Table.InterfaceMembers.{OPT_PARENTHESIZED_ARGUMENT_LIST}
use Rattle.weedle_grammar.specs.written.Table.Types.{PARENTHESIZED_ARGUMENT_LIST}
use Rattle.weedle_types.proofs.SharedRules.{answers_rule}
use Rattle.weedle_types.specs.Trees.{arguments_tree}

pub returns : goal.returns
returns c = answers_rule _ (option_rule (own_rule PARENTHESIZED_ARGUMENT_LIST arguments_tree (Unit {0})) OPT_PARENTHESIZED_ARGUMENT_LIST refl refl) _ c.parse.ensures

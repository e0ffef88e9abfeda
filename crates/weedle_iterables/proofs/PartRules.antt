-- How the parts of asynchronous iterations are read, and that this is what their rules read.
use Rattle.std.specs.Prelude.{Option}
use Rattle.weedle_base.proofs.RuleFacts.{own_rule, still_rule}
use Rattle.weedle_base.specs.Own.{own}
use Rattle.weedle_base.specs.Reading.{Reading}
use Rattle.weedle_base.specs.Rules.{IsRule}
use Rattle.weedle_grammar.specs.written.Table.InterfaceMembers.{ASYNC_ITERABLE, OPT_PARENTHESIZED_ARGUMENT_LIST}
use Rattle.weedle_iterables.specs.written.PartTrees.{AsyncIterable, async_iterable_tree, optional_arguments_tree}
use Rattle.weedle_types.specs.declared.argument.ParenthesizedArgumentList.{ParenthesizedArgumentList}

-- arguments in parentheses, or none
abbrev pub optional_arguments_reading : Reading (Option ParenthesizedArgumentList)
optional_arguments_reading = own OPT_PARENTHESIZED_ARGUMENT_LIST optional_arguments_tree (Unit {0})

pub optional_arguments_rule : IsRule optional_arguments_reading OPT_PARENTHESIZED_ARGUMENT_LIST optional_arguments_tree (Unit {0})
optional_arguments_rule = own_rule OPT_PARENTHESIZED_ARGUMENT_LIST optional_arguments_tree (Unit {0})

-- the words `async iterable`
abbrev pub async_iterable_reading : Reading AsyncIterable
async_iterable_reading = own ASYNC_ITERABLE async_iterable_tree ⊥

pub async_iterable_rule : IsRule async_iterable_reading ASYNC_ITERABLE async_iterable_tree (Unit {0})
async_iterable_rule = still_rule (own_rule ASYNC_ITERABLE async_iterable_tree ⊥)

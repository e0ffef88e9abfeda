-- The parts of asynchronous iterations: their words, by one name, and the trees of these and of their
-- arguments.
use Rattle.std.specs.Prelude.{Option, [], ◌∷◌}
use Rattle.weedle_base.specs.Rules.{option_tree}
use Rattle.weedle_base.specs.declared.term.written.definition_keywords.Async.{Async}
use Rattle.weedle_base.specs.declared.term.written.definition_keywords.Iterable.{Iterable}
use Rattle.weedle_grammar.specs.Trees.{Mark, Node, Tree, trees}
use Rattle.weedle_types.specs.Trees.{arguments_tree}
use Rattle.weedle_types.specs.declared.argument.ParenthesizedArgumentList.{ParenthesizedArgumentList}

-- the words `async iterable`
abbrev pub AsyncIterable : Type 0
AsyncIterable = Async × Iterable

-- both words
abbrev pub async_iterable_tree : AsyncIterable → Tree
async_iterable_tree v = Node (trees (Mark ∷ Mark ∷ []))

-- arguments in parentheses, or none
abbrev pub optional_arguments_tree : Option ParenthesizedArgumentList → Tree
optional_arguments_tree = option_tree arguments_tree

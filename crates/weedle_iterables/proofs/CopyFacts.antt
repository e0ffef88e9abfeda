-- Parts that are alike have the same tree.
use Rattle.std.specs.Prelude.{Option, ◌≡◌}
use Rattle.weedle_base.specs.Alike.{option_alike}
use Rattle.weedle_iterables.specs.written.PartTrees.{optional_arguments_tree}
use Rattle.weedle_types.proofs.CopyFacts.{option_same}
use Rattle.weedle_types.specs.Trees.{arguments_tree}
use Rattle.weedle_types.specs.declared.argument.ParenthesizedArgumentList.{ParenthesizedArgumentList}

-- arguments that may be absent
pub optional_arguments_alike : (a b : Option ParenthesizedArgumentList) → option_alike (λ v w. arguments_tree v ≡ arguments_tree w) a b → optional_arguments_tree a ≡ optional_arguments_tree b
optional_arguments_alike a b h = option_same arguments_tree (λ v w. arguments_tree v ≡ arguments_tree w) (λ v w e. e) a b h

-- The trees of iterations, asynchronous ones too, of maps and of sets.
use Rattle.std.specs.Prelude.{[], ◌∷◌}
use Rattle.weedle_base.specs.Rules.{mark_tree, option_tree}
use Rattle.weedle_grammar.specs.Trees.{Alt, Mark, Node, Tree, trees}
use Rattle.weedle_iterables.specs.declared.async_iterable.AsyncIterableInterfaceMember.TheVariants.{Single as AsyncIterableInterfaceMember-Single, Double as AsyncIterableInterfaceMember-Double}
use Rattle.weedle_iterables.specs.declared.async_iterable.AsyncIterableInterfaceMember.{AsyncIterableInterfaceMember}
use Rattle.weedle_iterables.specs.declared.async_iterable.DoubleTypedAsyncIterable.{DoubleTypedAsyncIterable}
use Rattle.weedle_iterables.specs.declared.async_iterable.SingleTypedAsyncIterable.{SingleTypedAsyncIterable}
use Rattle.weedle_iterables.specs.declared.collection.MaplikeInterfaceMember.{MaplikeInterfaceMember}
use Rattle.weedle_iterables.specs.declared.collection.SetlikeInterfaceMember.{SetlikeInterfaceMember}
use Rattle.weedle_iterables.specs.declared.iterable.DoubleTypedIterable.{DoubleTypedIterable}
use Rattle.weedle_iterables.specs.declared.iterable.IterableInterfaceMember.TheVariants.{Single as IterableInterfaceMember-Single, Double as IterableInterfaceMember-Double}
use Rattle.weedle_iterables.specs.declared.iterable.IterableInterfaceMember.{IterableInterfaceMember}
use Rattle.weedle_iterables.specs.declared.iterable.SingleTypedIterable.{SingleTypedIterable}
use Rattle.weedle_iterables.specs.written.PartTrees.{async_iterable_tree, optional_arguments_tree}
use Rattle.weedle_types.specs.GenericsTrees.{one_type_tree, two_types_tree}
use Rattle.weedle_types.specs.Trees.{attributes_tree}

-- a map: its extended attributes where present, `readonly` where present, `maplike`, the types of
-- its keys and values in angle brackets, `;`
abbrev pub maplike_interface_member_tree : MaplikeInterfaceMember → Tree
maplike_interface_member_tree v = Node (trees (attributes_tree v.attributes ∷ option_tree mark_tree v.readonly ∷ Mark ∷ two_types_tree v.generics ∷ Mark ∷ []))

-- a set: its extended attributes where present, `readonly` where present, `setlike`, the type of
-- its values in angle brackets, `;`
abbrev pub setlike_interface_member_tree : SetlikeInterfaceMember → Tree
setlike_interface_member_tree v = Node (trees (attributes_tree v.attributes ∷ option_tree mark_tree v.readonly ∷ Mark ∷ one_type_tree v.generics ∷ Mark ∷ []))

-- an iteration over values: its extended attributes where present, `iterable`, the type of its
-- values in angle brackets, `;`
abbrev pub single_typed_iterable_tree : SingleTypedIterable → Tree
single_typed_iterable_tree v = Node (trees (attributes_tree v.attributes ∷ Mark ∷ one_type_tree v.generics ∷ Mark ∷ []))

-- an iteration over pairs: its extended attributes where present, `iterable`, the types of its keys
-- and values in angle brackets, `;`
abbrev pub double_typed_iterable_tree : DoubleTypedIterable → Tree
double_typed_iterable_tree v = Node (trees (attributes_tree v.attributes ∷ Mark ∷ two_types_tree v.generics ∷ Mark ∷ []))

-- an iteration over values or pairs: an iteration over values, an iteration over pairs
abbrev pub iterable_interface_member_tree : IterableInterfaceMember → Tree
iterable_interface_member_tree (IterableInterfaceMember-Single v) = Alt 0 (single_typed_iterable_tree v)
iterable_interface_member_tree (IterableInterfaceMember-Double v) = Alt 1 (double_typed_iterable_tree v)

-- an asynchronous iteration over values: its extended attributes where present, `async` and
-- `iterable`, the type of its values in angle brackets, the arguments between parentheses where
-- present, `;`
abbrev pub single_typed_async_iterable_tree : SingleTypedAsyncIterable → Tree
single_typed_async_iterable_tree v = Node (trees (attributes_tree v.attributes ∷ async_iterable_tree v.async_iterable ∷ one_type_tree v.generics ∷ optional_arguments_tree v.args ∷ Mark ∷ []))

-- an asynchronous iteration over pairs: its extended attributes where present, `async` and
-- `iterable`, the types of its keys and values in angle brackets, the arguments between parentheses
-- where present, `;`
abbrev pub double_typed_async_iterable_tree : DoubleTypedAsyncIterable → Tree
double_typed_async_iterable_tree v = Node (trees (attributes_tree v.attributes ∷ async_iterable_tree v.async_iterable ∷ two_types_tree v.generics ∷ optional_arguments_tree v.args ∷ Mark ∷ []))

-- an asynchronous iteration over values or pairs: an asynchronous iteration over values, an asynchronous
-- iteration over pairs
abbrev pub async_iterable_interface_member_tree : AsyncIterableInterfaceMember → Tree
async_iterable_interface_member_tree (AsyncIterableInterfaceMember-Single v) = Alt 0 (single_typed_async_iterable_tree v)
async_iterable_interface_member_tree (AsyncIterableInterfaceMember-Double v) = Alt 1 (double_typed_async_iterable_tree v)

-- How iterations, maps and sets are rendered.
-- Written by tools/spellings.py, and not edited by hand.
use Rattle.std.specs.Prelude.{codes}
use Rattle.weedle_base.specs.declared.term.written.definition_keywords.Async.{Async}
use Rattle.weedle_base.specs.declared.term.written.definition_keywords.Iterable.{Iterable}
use Rattle.weedle_base.specs.declared.term.written.symbols.Comma.{Comma}
use Rattle.weedle_iterables.specs.declared.async_iterable.AsyncIterableInterfaceMember.TheVariants.{Single as AsyncIterableInterfaceMember-Single, Double as AsyncIterableInterfaceMember-Double}
use Rattle.weedle_iterables.specs.declared.async_iterable.AsyncIterableInterfaceMember.{AsyncIterableInterfaceMember}
use Rattle.weedle_iterables.specs.declared.async_iterable.DoubleTypedAsyncIterable.{DoubleTypedAsyncIterable}
use Rattle.weedle_iterables.specs.declared.async_iterable.SingleTypedAsyncIterable.{SingleTypedAsyncIterable}
use Rattle.weedle_iterables.specs.declared.collection.MaplikeInterfaceMember.{MaplikeInterfaceMember}
use Rattle.weedle_iterables.specs.declared.collection.SetlikeInterfaceMember.{SetlikeInterfaceMember}
use Rattle.weedle_iterables.specs.declared.iterable.DoubleTypedIterable.{DoubleTypedIterable}
use Rattle.weedle_iterables.specs.declared.iterable.IterableInterfaceMember.TheVariants.{Single as IterableInterfaceMember-Single, Double as IterableInterfaceMember-Double}
use Rattle.weedle_iterables.specs.declared.iterable.IterableInterfaceMember.{IterableInterfaceMember}
use Rattle.weedle_iterables.specs.declared.iterable.SingleTypedIterable.{SingleTypedIterable}
use Rattle.weedle_spell.specs.Forms.{Form, optional, ◌then◌}
use Rattle.weedle_spell.specs.GenericParts.{generics_spelling}
use Rattle.weedle_spell.specs.Leaves.{terminal}
use Rattle.weedle_spell.specs.written.Arguments.{arguments_spelling, attributes_spelling}
use Rattle.weedle_spell.specs.written.Types.{attributed_type_spelling}
use Rattle.weedle_types.specs.declared.types.AttributedType.{AttributedType}

-- the words `async iterable`
abbrev pub async_iterable_spelling : Async × Iterable → Form
async_iterable_spelling v = terminal (codes "async") v.0 then terminal (codes "iterable") v.1

-- an asynchronous iteration over values
abbrev pub single_typed_async_iterable_spelling : SingleTypedAsyncIterable → Form
single_typed_async_iterable_spelling v =
    attributes_spelling v.attributes then async_iterable_spelling v.async_iterable
    then generics_spelling attributed_type_spelling v.generics then optional arguments_spelling v.args
    then terminal (codes ";") v.semi_colon

-- the types of keys and values
abbrev pub key_and_value_spelling : AttributedType × Comma × AttributedType → Form
key_and_value_spelling v =
    attributed_type_spelling v.0 then terminal (codes ",") v.1 then attributed_type_spelling v.2

-- an asynchronous iteration over pairs
abbrev pub double_typed_async_iterable_spelling : DoubleTypedAsyncIterable → Form
double_typed_async_iterable_spelling v =
    attributes_spelling v.attributes then async_iterable_spelling v.async_iterable
    then generics_spelling key_and_value_spelling v.generics then optional arguments_spelling v.args
    then terminal (codes ";") v.semi_colon

-- an asynchronous iteration over values or pairs
abbrev pub async_iterable_interface_member_spelling : AsyncIterableInterfaceMember → Form
async_iterable_interface_member_spelling (AsyncIterableInterfaceMember-Single v) =
    single_typed_async_iterable_spelling v
async_iterable_interface_member_spelling (AsyncIterableInterfaceMember-Double v) =
    double_typed_async_iterable_spelling v

-- a map
abbrev pub maplike_interface_member_spelling : MaplikeInterfaceMember → Form
maplike_interface_member_spelling v =
    attributes_spelling v.attributes then optional (terminal (codes "readonly")) v.readonly
    then terminal (codes "maplike") v.maplike then generics_spelling key_and_value_spelling v.generics
    then terminal (codes ";") v.semi_colon

-- a set
abbrev pub setlike_interface_member_spelling : SetlikeInterfaceMember → Form
setlike_interface_member_spelling v =
    attributes_spelling v.attributes then optional (terminal (codes "readonly")) v.readonly
    then terminal (codes "setlike") v.setlike then generics_spelling attributed_type_spelling v.generics
    then terminal (codes ";") v.semi_colon

-- an iteration over values
abbrev pub single_typed_iterable_spelling : SingleTypedIterable → Form
single_typed_iterable_spelling v =
    attributes_spelling v.attributes then terminal (codes "iterable") v.iterable
    then generics_spelling attributed_type_spelling v.generics then terminal (codes ";") v.semi_colon

-- an iteration over pairs
abbrev pub double_typed_iterable_spelling : DoubleTypedIterable → Form
double_typed_iterable_spelling v =
    attributes_spelling v.attributes then terminal (codes "iterable") v.iterable
    then generics_spelling key_and_value_spelling v.generics then terminal (codes ";") v.semi_colon

-- an iteration over values or pairs
abbrev pub iterable_interface_member_spelling : IterableInterfaceMember → Form
iterable_interface_member_spelling (IterableInterfaceMember-Single v) = single_typed_iterable_spelling v
iterable_interface_member_spelling (IterableInterfaceMember-Double v) = double_typed_iterable_spelling v

-- The laws of iterations, maps and sets. Written by tools/spellings.py, and not edited by hand.
use Rattle.std.proofs.Common.{refl}
use Rattle.weedle_grammar.specs.written.Table.InterfaceMembers.{ASYNC_ITERABLE, ASYNC_ITERABLE_INTERFACE_MEMBER, DOUBLE_TYPED_ASYNC_ITERABLE, DOUBLE_TYPED_ITERABLE, ITERABLE_INTERFACE_MEMBER, KEY_AND_VALUE_TYPES, MAPLIKE_INTERFACE_MEMBER, SETLIKE_INTERFACE_MEMBER, SINGLE_TYPED_ASYNC_ITERABLE, SINGLE_TYPED_ITERABLE}
use Rattle.weedle_iterables.specs.declared.async_iterable.AsyncIterableInterfaceMember.TheVariants.{Single as AsyncIterableInterfaceMember-Single, Double as AsyncIterableInterfaceMember-Double}
use Rattle.weedle_iterables.specs.declared.iterable.IterableInterfaceMember.TheVariants.{Single as IterableInterfaceMember-Single, Double as IterableInterfaceMember-Double}
use Rattle.weedle_iterables.specs.written.PartTrees.{async_iterable_tree}
use Rattle.weedle_iterables.specs.written.Trees.{async_iterable_interface_member_tree, double_typed_async_iterable_tree, double_typed_iterable_tree, iterable_interface_member_tree, maplike_interface_member_tree, setlike_interface_member_tree, single_typed_async_iterable_tree, single_typed_iterable_tree}
use Rattle.weedle_spell.proofs.LawFacts.{loose}
use Rattle.weedle_spell.proofs.PartFacts.{generics}
use Rattle.weedle_spell.proofs.Spelt.{IsSpelt, alternative, last, node, option_spelt, part}
use Rattle.weedle_spell.proofs.TriviaFacts.{keyword, symbol}
use Rattle.weedle_spell.proofs.written.ArgumentLaws.{arguments, attributes}
use Rattle.weedle_spell.proofs.written.TypeLaws.{attributed_type}
use Rattle.weedle_spell.specs.Laws.{SpellsValues}
use Rattle.weedle_spell_idl.specs.written.Iterables.{async_iterable_interface_member_spelling, async_iterable_spelling, double_typed_async_iterable_spelling, double_typed_iterable_spelling, iterable_interface_member_spelling, key_and_value_spelling, maplike_interface_member_spelling, setlike_interface_member_spelling, single_typed_async_iterable_spelling, single_typed_iterable_spelling}
use Rattle.weedle_types.specs.GenericsTrees.{key_and_value_tree}

pub async_iterable : IsSpelt ASYNC_ITERABLE async_iterable_tree async_iterable_spelling
async_iterable v = node refl refl (part (keyword refl refl refl) (last (keyword refl refl refl)))

pub single_typed_async_iterable : IsSpelt SINGLE_TYPED_ASYNC_ITERABLE single_typed_async_iterable_tree single_typed_async_iterable_spelling
single_typed_async_iterable v =
    node refl refl (part (attributes v.attributes) (part (async_iterable v.async_iterable)
    (part (generics (attributed_type v.generics.body) refl refl)
    (part (option_spelt refl refl refl arguments v.args) (last (symbol refl refl refl))))))

pub key_and_value : IsSpelt KEY_AND_VALUE_TYPES key_and_value_tree key_and_value_spelling
key_and_value v =
    node refl refl (part (attributed_type v.0) (part (symbol refl refl refl) (last (attributed_type v.2))))

pub double_typed_async_iterable : IsSpelt DOUBLE_TYPED_ASYNC_ITERABLE double_typed_async_iterable_tree double_typed_async_iterable_spelling
double_typed_async_iterable v =
    node refl refl (part (attributes v.attributes) (part (async_iterable v.async_iterable)
    (part (generics (key_and_value v.generics.body) refl refl)
    (part (option_spelt refl refl refl arguments v.args) (last (symbol refl refl refl))))))

pub async_iterable_interface_member : IsSpelt ASYNC_ITERABLE_INTERFACE_MEMBER async_iterable_interface_member_tree async_iterable_interface_member_spelling
async_iterable_interface_member (AsyncIterableInterfaceMember-Single v) =
    alternative 0 refl refl refl (single_typed_async_iterable v)
async_iterable_interface_member (AsyncIterableInterfaceMember-Double v) =
    alternative 1 refl refl refl (double_typed_async_iterable v)

pub maplike_interface_member : IsSpelt MAPLIKE_INTERFACE_MEMBER maplike_interface_member_tree maplike_interface_member_spelling
maplike_interface_member v =
    node refl refl (part (attributes v.attributes)
    (part (option_spelt refl refl refl (λ w. keyword refl refl refl) v.readonly)
    (part (keyword refl refl refl) (part (generics (key_and_value v.generics.body) refl refl)
    (last (symbol refl refl refl))))))

pub setlike_interface_member : IsSpelt SETLIKE_INTERFACE_MEMBER setlike_interface_member_tree setlike_interface_member_spelling
setlike_interface_member v =
    node refl refl (part (attributes v.attributes)
    (part (option_spelt refl refl refl (λ w. keyword refl refl refl) v.readonly)
    (part (keyword refl refl refl) (part (generics (attributed_type v.generics.body) refl refl)
    (last (symbol refl refl refl))))))

pub single_typed_iterable : IsSpelt SINGLE_TYPED_ITERABLE single_typed_iterable_tree single_typed_iterable_spelling
single_typed_iterable v =
    node refl refl (part (attributes v.attributes) (part (keyword refl refl refl)
    (part (generics (attributed_type v.generics.body) refl refl) (last (symbol refl refl refl)))))

pub double_typed_iterable : IsSpelt DOUBLE_TYPED_ITERABLE double_typed_iterable_tree double_typed_iterable_spelling
double_typed_iterable v =
    node refl refl (part (attributes v.attributes) (part (keyword refl refl refl)
    (part (generics (key_and_value v.generics.body) refl refl) (last (symbol refl refl refl)))))

pub iterable_interface_member : IsSpelt ITERABLE_INTERFACE_MEMBER iterable_interface_member_tree iterable_interface_member_spelling
iterable_interface_member (IterableInterfaceMember-Single v) =
    alternative 0 refl refl refl (single_typed_iterable v)
iterable_interface_member (IterableInterfaceMember-Double v) =
    alternative 1 refl refl refl (double_typed_iterable v)

-- the laws
pub single_typed_async_iterable_law : SpellsValues SINGLE_TYPED_ASYNC_ITERABLE single_typed_async_iterable_tree single_typed_async_iterable_spelling
single_typed_async_iterable_law = loose single_typed_async_iterable

pub double_typed_async_iterable_law : SpellsValues DOUBLE_TYPED_ASYNC_ITERABLE double_typed_async_iterable_tree double_typed_async_iterable_spelling
double_typed_async_iterable_law = loose double_typed_async_iterable

pub async_iterable_interface_member_law : SpellsValues ASYNC_ITERABLE_INTERFACE_MEMBER async_iterable_interface_member_tree async_iterable_interface_member_spelling
async_iterable_interface_member_law = loose async_iterable_interface_member

pub maplike_interface_member_law : SpellsValues MAPLIKE_INTERFACE_MEMBER maplike_interface_member_tree maplike_interface_member_spelling
maplike_interface_member_law = loose maplike_interface_member

pub setlike_interface_member_law : SpellsValues SETLIKE_INTERFACE_MEMBER setlike_interface_member_tree setlike_interface_member_spelling
setlike_interface_member_law = loose setlike_interface_member

pub single_typed_iterable_law : SpellsValues SINGLE_TYPED_ITERABLE single_typed_iterable_tree single_typed_iterable_spelling
single_typed_iterable_law = loose single_typed_iterable

pub double_typed_iterable_law : SpellsValues DOUBLE_TYPED_ITERABLE double_typed_iterable_tree double_typed_iterable_spelling
double_typed_iterable_law = loose double_typed_iterable

pub iterable_interface_member_law : SpellsValues ITERABLE_INTERFACE_MEMBER iterable_interface_member_tree iterable_interface_member_spelling
iterable_interface_member_law = loose iterable_interface_member

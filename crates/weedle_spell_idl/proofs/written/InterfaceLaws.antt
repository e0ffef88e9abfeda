-- The laws of the members of interfaces, of interfaces and of mixins.
-- Written by tools/spellings.py, and not edited by hand.
use Rattle.std.proofs.Common.{refl}
use Rattle.weedle_grammar.specs.written.Table.Definitions.{CALLBACK_INTERFACE_DEFINITION, INTERFACE_DEFINITION, INTERFACE_MIXIN_DEFINITION, PARTIAL_INTERFACE_DEFINITION, PARTIAL_INTERFACE_MIXIN_DEFINITION}
use Rattle.weedle_grammar.specs.written.Table.InterfaceMembers.{INTERFACE_MEMBER, INTERFACE_MEMBERS}
use Rattle.weedle_interfaces.specs.declared.member.InterfaceMember.TheVariants.{Const as InterfaceMember-Const, Attribute as InterfaceMember-Attribute, Constructor as InterfaceMember-Constructor, Operation as InterfaceMember-Operation, Iterable as InterfaceMember-Iterable, AsyncIterable as InterfaceMember-AsyncIterable, Maplike as InterfaceMember-Maplike, Setlike as InterfaceMember-Setlike, Stringifier as InterfaceMember-Stringifier}
use Rattle.weedle_interfaces.specs.written.Trees.{callback_interface_definition_tree, interface_definition_tree, interface_member_tree, partial_interface_definition_tree}
use Rattle.weedle_mixins.specs.written.Trees.{interface_mixin_definition_tree, partial_interface_mixin_definition_tree}
use Rattle.weedle_spell.proofs.LawFacts.{loose}
use Rattle.weedle_spell.proofs.LeafLaws.{docstring, identifier}
use Rattle.weedle_spell.proofs.PartFacts.{braced}
use Rattle.weedle_spell.proofs.Spelt.{IsSpelt, alternative, last, node, option_spelt, part}
use Rattle.weedle_spell.proofs.SpeltLists.{all_spelt, many_spelt}
use Rattle.weedle_spell.proofs.TriviaFacts.{keyword, symbol}
use Rattle.weedle_spell.proofs.written.ArgumentLaws.{attributes}
use Rattle.weedle_spell.specs.Laws.{SpellsValues}
use Rattle.weedle_spell_idl.proofs.written.IterableLaws.{async_iterable_interface_member, iterable_interface_member, maplike_interface_member, setlike_interface_member}
use Rattle.weedle_spell_idl.proofs.written.MemberLaws.{attribute_interface_member, const_member, constructor_interface_member, mixin_members, operation_interface_member, stringifier_member}
use Rattle.weedle_spell_idl.proofs.written.ModifierLaws.{inheritance}
use Rattle.weedle_spell_idl.specs.written.Interfaces.{callback_interface_definition_spelling, interface_definition_spelling, interface_member_spelling, interface_members_spelling, interface_mixin_definition_spelling, partial_interface_definition_spelling, partial_interface_mixin_definition_spelling}
use Rattle.weedle_types.specs.PartTrees.{members_tree}

pub interface_member : IsSpelt INTERFACE_MEMBER interface_member_tree interface_member_spelling
interface_member (InterfaceMember-Const v) = alternative 0 refl refl refl (const_member v)
interface_member (InterfaceMember-Attribute v) = alternative 1 refl refl refl (attribute_interface_member v)
interface_member (InterfaceMember-Constructor v) =
    alternative 2 refl refl refl (constructor_interface_member v)
interface_member (InterfaceMember-Operation v) = alternative 3 refl refl refl (operation_interface_member v)
interface_member (InterfaceMember-Iterable v) = alternative 4 refl refl refl (iterable_interface_member v)
interface_member (InterfaceMember-AsyncIterable v) =
    alternative 5 refl refl refl (async_iterable_interface_member v)
interface_member (InterfaceMember-Maplike v) = alternative 6 refl refl refl (maplike_interface_member v)
interface_member (InterfaceMember-Setlike v) = alternative 7 refl refl refl (setlike_interface_member v)
interface_member (InterfaceMember-Stringifier v) = alternative 8 refl refl refl (stringifier_member v)

pub interface_members : IsSpelt INTERFACE_MEMBERS (members_tree interface_member_tree) interface_members_spelling
interface_members v = many_spelt refl refl refl v.items (all_spelt interface_member v.items)

pub callback_interface_definition : IsSpelt CALLBACK_INTERFACE_DEFINITION callback_interface_definition_tree callback_interface_definition_spelling
callback_interface_definition v =
    node refl refl (part (option_spelt refl refl refl docstring v.docstring) (part (attributes v.attributes)
    (part (keyword refl refl refl) (part (keyword refl refl refl) (part (identifier v.identifier)
    (part (option_spelt refl refl refl inheritance v.inheritance)
    (part (braced (interface_members v.members.body) refl refl) (last (symbol refl refl refl)))))))))

pub interface_definition : IsSpelt INTERFACE_DEFINITION interface_definition_tree interface_definition_spelling
interface_definition v =
    node refl refl (part (option_spelt refl refl refl docstring v.docstring) (part (attributes v.attributes)
    (part (keyword refl refl refl) (part (identifier v.identifier)
    (part (option_spelt refl refl refl inheritance v.inheritance)
    (part (braced (interface_members v.members.body) refl refl) (last (symbol refl refl refl))))))))

pub partial_interface_definition : IsSpelt PARTIAL_INTERFACE_DEFINITION partial_interface_definition_tree partial_interface_definition_spelling
partial_interface_definition v =
    node refl refl (part (attributes v.attributes) (part (keyword refl refl refl)
    (part (keyword refl refl refl) (part (identifier v.identifier)
    (part (braced (interface_members v.members.body) refl refl) (last (symbol refl refl refl)))))))

pub interface_mixin_definition : IsSpelt INTERFACE_MIXIN_DEFINITION interface_mixin_definition_tree interface_mixin_definition_spelling
interface_mixin_definition v =
    node refl refl (part (attributes v.attributes) (part (keyword refl refl refl)
    (part (keyword refl refl refl) (part (identifier v.identifier)
    (part (braced (mixin_members v.members.body) refl refl) (last (symbol refl refl refl)))))))

pub partial_interface_mixin_definition : IsSpelt PARTIAL_INTERFACE_MIXIN_DEFINITION partial_interface_mixin_definition_tree partial_interface_mixin_definition_spelling
partial_interface_mixin_definition v =
    node refl refl (part (attributes v.attributes) (part (keyword refl refl refl)
    (part (keyword refl refl refl) (part (keyword refl refl refl) (part (identifier v.identifier)
    (part (braced (mixin_members v.members.body) refl refl) (last (symbol refl refl refl))))))))

-- the laws
pub interface_member_law : SpellsValues INTERFACE_MEMBER interface_member_tree interface_member_spelling
interface_member_law = loose interface_member

pub interface_members_law : SpellsValues INTERFACE_MEMBERS (members_tree interface_member_tree) interface_members_spelling
interface_members_law = loose interface_members

pub callback_interface_definition_law : SpellsValues CALLBACK_INTERFACE_DEFINITION callback_interface_definition_tree callback_interface_definition_spelling
callback_interface_definition_law = loose callback_interface_definition

pub interface_definition_law : SpellsValues INTERFACE_DEFINITION interface_definition_tree interface_definition_spelling
interface_definition_law = loose interface_definition

pub partial_interface_definition_law : SpellsValues PARTIAL_INTERFACE_DEFINITION partial_interface_definition_tree partial_interface_definition_spelling
partial_interface_definition_law = loose partial_interface_definition

pub interface_mixin_definition_law : SpellsValues INTERFACE_MIXIN_DEFINITION interface_mixin_definition_tree interface_mixin_definition_spelling
interface_mixin_definition_law = loose interface_mixin_definition

pub partial_interface_mixin_definition_law : SpellsValues PARTIAL_INTERFACE_MIXIN_DEFINITION partial_interface_mixin_definition_tree partial_interface_mixin_definition_spelling
partial_interface_mixin_definition_law = loose partial_interface_mixin_definition

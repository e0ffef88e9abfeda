-- The laws of constants, attributes, operations, constructors and stringifiers of interfaces, and
-- of the members of mixins. Written by tools/spellings.py, and not edited by hand.
use Rattle.std.proofs.Common.{refl}
use Rattle.weedle_grammar.specs.written.Table.InterfaceMembers.{ATTRIBUTE_INTERFACE_MEMBER, CONSTRUCTOR_INTERFACE_MEMBER, CONST_MEMBER, OPERATION_INTERFACE_MEMBER, STRINGIFIER_MEMBER}
use Rattle.weedle_grammar.specs.written.Table.OtherMembers.{ATTRIBUTE_MIXIN_MEMBER, MIXIN_MEMBER, MIXIN_MEMBERS, OPERATION_MIXIN_MEMBER}
use Rattle.weedle_members.specs.written.Trees.{attribute_interface_member_tree, const_member_tree, constructor_interface_member_tree, operation_interface_member_tree, stringifier_member_tree}
use Rattle.weedle_mixins.specs.declared.mixin.MixinMember.TheVariants.{Const as MixinMember-Const, Operation as MixinMember-Operation, Attribute as MixinMember-Attribute, Stringifier as MixinMember-Stringifier}
use Rattle.weedle_mixins.specs.written.Trees.{attribute_mixin_member_tree, mixin_member_tree, operation_mixin_member_tree}
use Rattle.weedle_spell.proofs.LawFacts.{loose}
use Rattle.weedle_spell.proofs.LeafLaws.{docstring, identifier}
use Rattle.weedle_spell.proofs.LiteralLaws.{const_value}
use Rattle.weedle_spell.proofs.SimpleTypeLaws.{const_type}
use Rattle.weedle_spell.proofs.Spelt.{IsSpelt, alternative, last, node, option_spelt, part}
use Rattle.weedle_spell.proofs.SpeltLists.{all_spelt, many_spelt}
use Rattle.weedle_spell.proofs.TriviaFacts.{keyword, symbol}
use Rattle.weedle_spell.proofs.written.ArgumentLaws.{arguments, attributes}
use Rattle.weedle_spell.proofs.written.TypeLaws.{attributed_type, return_type}
use Rattle.weedle_spell.specs.Laws.{SpellsValues}
use Rattle.weedle_spell_idl.proofs.written.ModifierLaws.{special, stringifier_or_inherit_or_static, stringifier_or_static}
use Rattle.weedle_spell_idl.specs.written.Members.{attribute_interface_member_spelling, attribute_mixin_member_spelling, const_member_spelling, constructor_interface_member_spelling, mixin_member_spelling, mixin_members_spelling, operation_interface_member_spelling, operation_mixin_member_spelling, stringifier_member_spelling}
use Rattle.weedle_types.specs.PartTrees.{members_tree}

pub attribute_interface_member : IsSpelt ATTRIBUTE_INTERFACE_MEMBER attribute_interface_member_tree attribute_interface_member_spelling
attribute_interface_member v =
    node refl refl (part (attributes v.attributes)
    (part (option_spelt refl refl refl stringifier_or_inherit_or_static v.modifier)
    (part (option_spelt refl refl refl (λ w. keyword refl refl refl) v.readonly)
    (part (keyword refl refl refl) (part (attributed_type v.type_) (part (identifier v.identifier)
    (last (symbol refl refl refl))))))))

pub const_member : IsSpelt CONST_MEMBER const_member_tree const_member_spelling
const_member v =
    node refl refl (part (attributes v.attributes) (part (keyword refl refl refl)
    (part (const_type v.const_type) (part (identifier v.identifier) (part (symbol refl refl refl)
    (part (const_value v.const_value) (last (symbol refl refl refl))))))))

pub constructor_interface_member : IsSpelt CONSTRUCTOR_INTERFACE_MEMBER constructor_interface_member_tree constructor_interface_member_spelling
constructor_interface_member v =
    node refl refl (part (option_spelt refl refl refl docstring v.docstring) (part (attributes v.attributes)
    (part (keyword refl refl refl) (part (arguments v.args) (last (symbol refl refl refl))))))

pub operation_interface_member : IsSpelt OPERATION_INTERFACE_MEMBER operation_interface_member_tree operation_interface_member_spelling
operation_interface_member v =
    node refl refl (part (option_spelt refl refl refl docstring v.docstring) (part (attributes v.attributes)
    (part (option_spelt refl refl refl stringifier_or_static v.modifier)
    (part (option_spelt refl refl refl special v.special) (part (return_type v.return_type)
    (part (option_spelt refl refl refl identifier v.identifier) (part (arguments v.args)
    (last (symbol refl refl refl)))))))))

pub stringifier_member : IsSpelt STRINGIFIER_MEMBER stringifier_member_tree stringifier_member_spelling
stringifier_member v =
    node refl refl (part (attributes v.attributes) (part (keyword refl refl refl)
    (last (symbol refl refl refl))))

pub operation_mixin_member : IsSpelt OPERATION_MIXIN_MEMBER operation_mixin_member_tree operation_mixin_member_spelling
operation_mixin_member v =
    node refl refl (part (attributes v.attributes)
    (part (option_spelt refl refl refl (λ w. keyword refl refl refl) v.stringifier)
    (part (return_type v.return_type) (part (option_spelt refl refl refl identifier v.identifier)
    (part (arguments v.args) (last (symbol refl refl refl)))))))

pub attribute_mixin_member : IsSpelt ATTRIBUTE_MIXIN_MEMBER attribute_mixin_member_tree attribute_mixin_member_spelling
attribute_mixin_member v =
    node refl refl (part (attributes v.attributes)
    (part (option_spelt refl refl refl (λ w. keyword refl refl refl) v.stringifier)
    (part (option_spelt refl refl refl (λ w. keyword refl refl refl) v.readonly)
    (part (keyword refl refl refl) (part (attributed_type v.type_) (part (identifier v.identifier)
    (last (symbol refl refl refl))))))))

pub mixin_member : IsSpelt MIXIN_MEMBER mixin_member_tree mixin_member_spelling
mixin_member (MixinMember-Const v) = alternative 0 refl refl refl (const_member v)
mixin_member (MixinMember-Operation v) = alternative 1 refl refl refl (operation_mixin_member v)
mixin_member (MixinMember-Attribute v) = alternative 2 refl refl refl (attribute_mixin_member v)
mixin_member (MixinMember-Stringifier v) = alternative 3 refl refl refl (stringifier_member v)

pub mixin_members : IsSpelt MIXIN_MEMBERS (members_tree mixin_member_tree) mixin_members_spelling
mixin_members v = many_spelt refl refl refl v.items (all_spelt mixin_member v.items)

-- the laws
pub attribute_interface_member_law : SpellsValues ATTRIBUTE_INTERFACE_MEMBER attribute_interface_member_tree attribute_interface_member_spelling
attribute_interface_member_law = loose attribute_interface_member

pub const_member_law : SpellsValues CONST_MEMBER const_member_tree const_member_spelling
const_member_law = loose const_member

pub constructor_interface_member_law : SpellsValues CONSTRUCTOR_INTERFACE_MEMBER constructor_interface_member_tree constructor_interface_member_spelling
constructor_interface_member_law = loose constructor_interface_member

pub operation_interface_member_law : SpellsValues OPERATION_INTERFACE_MEMBER operation_interface_member_tree operation_interface_member_spelling
operation_interface_member_law = loose operation_interface_member

pub stringifier_member_law : SpellsValues STRINGIFIER_MEMBER stringifier_member_tree stringifier_member_spelling
stringifier_member_law = loose stringifier_member

pub operation_mixin_member_law : SpellsValues OPERATION_MIXIN_MEMBER operation_mixin_member_tree operation_mixin_member_spelling
operation_mixin_member_law = loose operation_mixin_member

pub attribute_mixin_member_law : SpellsValues ATTRIBUTE_MIXIN_MEMBER attribute_mixin_member_tree attribute_mixin_member_spelling
attribute_mixin_member_law = loose attribute_mixin_member

pub mixin_member_law : SpellsValues MIXIN_MEMBER mixin_member_tree mixin_member_spelling
mixin_member_law = loose mixin_member

pub mixin_members_law : SpellsValues MIXIN_MEMBERS (members_tree mixin_member_tree) mixin_members_spelling
mixin_members_law = loose mixin_members

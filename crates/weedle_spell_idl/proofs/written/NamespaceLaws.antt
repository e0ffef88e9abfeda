-- The laws of namespaces and dictionaries, and of their members.
-- Written by tools/spellings.py, and not edited by hand.
use Rattle.std.proofs.Common.{refl}
use Rattle.weedle_grammar.specs.written.Table.Definitions.{DICTIONARY_DEFINITION, NAMESPACE_DEFINITION, PARTIAL_DICTIONARY_DEFINITION, PARTIAL_NAMESPACE_DEFINITION}
use Rattle.weedle_grammar.specs.written.Table.OtherMembers.{ATTRIBUTE_NAMESPACE_MEMBER, DICTIONARY_MEMBER, DICTIONARY_MEMBERS, NAMESPACE_MEMBER, NAMESPACE_MEMBERS, OPERATION_NAMESPACE_MEMBER}
use Rattle.weedle_namespaces.specs.declared.namespace.NamespaceMember.TheVariants.{Operation as NamespaceMember-Operation, Attribute as NamespaceMember-Attribute}
use Rattle.weedle_namespaces.specs.written.Trees.{attribute_namespace_member_tree, dictionary_definition_tree, dictionary_member_tree, namespace_definition_tree, namespace_member_tree, operation_namespace_member_tree, partial_dictionary_definition_tree, partial_namespace_definition_tree}
use Rattle.weedle_spell.proofs.LawFacts.{loose}
use Rattle.weedle_spell.proofs.LeafLaws.{docstring, identifier}
use Rattle.weedle_spell.proofs.LiteralLaws.{default}
use Rattle.weedle_spell.proofs.PartFacts.{braced}
use Rattle.weedle_spell.proofs.RecursiveTypeFacts.{type_}
use Rattle.weedle_spell.proofs.Spelt.{IsSpelt, alternative, last, node, option_spelt, part}
use Rattle.weedle_spell.proofs.SpeltLists.{all_spelt, many_spelt}
use Rattle.weedle_spell.proofs.TriviaFacts.{keyword, symbol}
use Rattle.weedle_spell.proofs.written.ArgumentLaws.{arguments, attributes}
use Rattle.weedle_spell.proofs.written.TypeLaws.{attributed_type, return_type}
use Rattle.weedle_spell.specs.Laws.{SpellsValues}
use Rattle.weedle_spell_idl.proofs.written.ModifierLaws.{inheritance}
use Rattle.weedle_spell_idl.specs.written.Namespaces.{attribute_namespace_member_spelling, dictionary_definition_spelling, dictionary_member_spelling, dictionary_members_spelling, namespace_definition_spelling, namespace_member_spelling, namespace_members_spelling, operation_namespace_member_spelling, partial_dictionary_definition_spelling, partial_namespace_definition_spelling}
use Rattle.weedle_types.specs.PartTrees.{members_tree}

pub dictionary_member : IsSpelt DICTIONARY_MEMBER dictionary_member_tree dictionary_member_spelling
dictionary_member v =
    node refl refl (part (option_spelt refl refl refl docstring v.docstring) (part (attributes v.attributes)
    (part (option_spelt refl refl refl (λ w. keyword refl refl refl) v.required) (part (type_ v.type_)
    (part (identifier v.identifier) (part (option_spelt refl refl refl default v.default)
    (last (symbol refl refl refl))))))))

pub dictionary_members : IsSpelt DICTIONARY_MEMBERS (members_tree dictionary_member_tree) dictionary_members_spelling
dictionary_members v = many_spelt refl refl refl v.items (all_spelt dictionary_member v.items)

pub dictionary_definition : IsSpelt DICTIONARY_DEFINITION dictionary_definition_tree dictionary_definition_spelling
dictionary_definition v =
    node refl refl (part (option_spelt refl refl refl docstring v.docstring) (part (attributes v.attributes)
    (part (keyword refl refl refl) (part (identifier v.identifier)
    (part (option_spelt refl refl refl inheritance v.inheritance)
    (part (braced (dictionary_members v.members.body) refl refl) (last (symbol refl refl refl))))))))

pub partial_dictionary_definition : IsSpelt PARTIAL_DICTIONARY_DEFINITION partial_dictionary_definition_tree partial_dictionary_definition_spelling
partial_dictionary_definition v =
    node refl refl (part (attributes v.attributes) (part (keyword refl refl refl)
    (part (keyword refl refl refl) (part (identifier v.identifier)
    (part (braced (dictionary_members v.members.body) refl refl) (last (symbol refl refl refl)))))))

pub operation_namespace_member : IsSpelt OPERATION_NAMESPACE_MEMBER operation_namespace_member_tree operation_namespace_member_spelling
operation_namespace_member v =
    node refl refl (part (option_spelt refl refl refl docstring v.docstring) (part (attributes v.attributes)
    (part (return_type v.return_type) (part (option_spelt refl refl refl identifier v.identifier)
    (part (arguments v.args) (last (symbol refl refl refl)))))))

pub attribute_namespace_member : IsSpelt ATTRIBUTE_NAMESPACE_MEMBER attribute_namespace_member_tree attribute_namespace_member_spelling
attribute_namespace_member v =
    node refl refl (part (option_spelt refl refl refl docstring v.docstring) (part (attributes v.attributes)
    (part (keyword refl refl refl) (part (keyword refl refl refl) (part (attributed_type v.type_)
    (part (identifier v.identifier) (last (symbol refl refl refl))))))))

pub namespace_member : IsSpelt NAMESPACE_MEMBER namespace_member_tree namespace_member_spelling
namespace_member (NamespaceMember-Operation v) = alternative 0 refl refl refl (operation_namespace_member v)
namespace_member (NamespaceMember-Attribute v) = alternative 1 refl refl refl (attribute_namespace_member v)

pub namespace_members : IsSpelt NAMESPACE_MEMBERS (members_tree namespace_member_tree) namespace_members_spelling
namespace_members v = many_spelt refl refl refl v.items (all_spelt namespace_member v.items)

pub namespace_definition : IsSpelt NAMESPACE_DEFINITION namespace_definition_tree namespace_definition_spelling
namespace_definition v =
    node refl refl (part (option_spelt refl refl refl docstring v.docstring) (part (attributes v.attributes)
    (part (keyword refl refl refl) (part (identifier v.identifier)
    (part (braced (namespace_members v.members.body) refl refl) (last (symbol refl refl refl)))))))

pub partial_namespace_definition : IsSpelt PARTIAL_NAMESPACE_DEFINITION partial_namespace_definition_tree partial_namespace_definition_spelling
partial_namespace_definition v =
    node refl refl (part (attributes v.attributes) (part (keyword refl refl refl)
    (part (keyword refl refl refl) (part (identifier v.identifier)
    (part (braced (namespace_members v.members.body) refl refl) (last (symbol refl refl refl)))))))

-- the laws
pub dictionary_member_law : SpellsValues DICTIONARY_MEMBER dictionary_member_tree dictionary_member_spelling
dictionary_member_law = loose dictionary_member

pub dictionary_members_law : SpellsValues DICTIONARY_MEMBERS (members_tree dictionary_member_tree) dictionary_members_spelling
dictionary_members_law = loose dictionary_members

pub dictionary_definition_law : SpellsValues DICTIONARY_DEFINITION dictionary_definition_tree dictionary_definition_spelling
dictionary_definition_law = loose dictionary_definition

pub partial_dictionary_definition_law : SpellsValues PARTIAL_DICTIONARY_DEFINITION partial_dictionary_definition_tree partial_dictionary_definition_spelling
partial_dictionary_definition_law = loose partial_dictionary_definition

pub operation_namespace_member_law : SpellsValues OPERATION_NAMESPACE_MEMBER operation_namespace_member_tree operation_namespace_member_spelling
operation_namespace_member_law = loose operation_namespace_member

pub attribute_namespace_member_law : SpellsValues ATTRIBUTE_NAMESPACE_MEMBER attribute_namespace_member_tree attribute_namespace_member_spelling
attribute_namespace_member_law = loose attribute_namespace_member

pub namespace_member_law : SpellsValues NAMESPACE_MEMBER namespace_member_tree namespace_member_spelling
namespace_member_law = loose namespace_member

pub namespace_members_law : SpellsValues NAMESPACE_MEMBERS (members_tree namespace_member_tree) namespace_members_spelling
namespace_members_law = loose namespace_members

pub namespace_definition_law : SpellsValues NAMESPACE_DEFINITION namespace_definition_tree namespace_definition_spelling
namespace_definition_law = loose namespace_definition

pub partial_namespace_definition_law : SpellsValues PARTIAL_NAMESPACE_DEFINITION partial_namespace_definition_tree partial_namespace_definition_spelling
partial_namespace_definition_law = loose partial_namespace_definition

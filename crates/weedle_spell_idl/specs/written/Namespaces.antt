-- How namespaces and dictionaries are rendered, and their members.
-- Written by tools/spellings.py, and not edited by hand.
use Rattle.std.specs.Global.{Vec}
use Rattle.std.specs.Prelude.{codes}
use Rattle.weedle_namespaces.specs.declared.dictionary.DictionaryMember.{DictionaryMember}
use Rattle.weedle_namespaces.specs.declared.dictionary_definition.DictionaryDefinition.{DictionaryDefinition}
use Rattle.weedle_namespaces.specs.declared.dictionary_definition.PartialDictionaryDefinition.{PartialDictionaryDefinition}
use Rattle.weedle_namespaces.specs.declared.namespace.AttributeNamespaceMember.{AttributeNamespaceMember}
use Rattle.weedle_namespaces.specs.declared.namespace.NamespaceMember.TheVariants.{Operation as NamespaceMember-Operation, Attribute as NamespaceMember-Attribute}
use Rattle.weedle_namespaces.specs.declared.namespace.NamespaceMember.{NamespaceMember}
use Rattle.weedle_namespaces.specs.declared.namespace.OperationNamespaceMember.{OperationNamespaceMember}
use Rattle.weedle_namespaces.specs.declared.namespace_definition.NamespaceDefinition.{NamespaceDefinition}
use Rattle.weedle_namespaces.specs.declared.namespace_definition.PartialNamespaceDefinition.{PartialNamespaceDefinition}
use Rattle.weedle_spell.specs.Forms.{Form, each, optional, ◌then◌}
use Rattle.weedle_spell.specs.GenericParts.{braced_spelling}
use Rattle.weedle_spell.specs.Leaves.{docstring_spelling, identifier_spelling, terminal}
use Rattle.weedle_spell.specs.Literals.{default_spelling}
use Rattle.weedle_spell.specs.RecursiveTypes.{type_spelling}
use Rattle.weedle_spell.specs.written.Arguments.{arguments_spelling, attributes_spelling}
use Rattle.weedle_spell.specs.written.Types.{attributed_type_spelling, return_type_spelling}
use Rattle.weedle_spell_idl.specs.written.Modifiers.{inheritance_spelling}

-- a member of a dictionary
abbrev pub dictionary_member_spelling : DictionaryMember → Form
dictionary_member_spelling v =
    optional docstring_spelling v.docstring then attributes_spelling v.attributes
    then optional (terminal (codes "required")) v.required then type_spelling v.type_
    then identifier_spelling v.identifier then optional default_spelling v.default
    then terminal (codes ";") v.semi_colon

-- the members of a dictionary, one after another
abbrev pub dictionary_members_spelling : Vec DictionaryMember → Form
dictionary_members_spelling v = each dictionary_member_spelling v.items

-- a dictionary
abbrev pub dictionary_definition_spelling : DictionaryDefinition → Form
dictionary_definition_spelling v =
    optional docstring_spelling v.docstring then attributes_spelling v.attributes
    then terminal (codes "dictionary") v.dictionary then identifier_spelling v.identifier
    then optional inheritance_spelling v.inheritance
    then braced_spelling dictionary_members_spelling v.members then terminal (codes ";") v.semi_colon

-- a part of a dictionary
abbrev pub partial_dictionary_definition_spelling : PartialDictionaryDefinition → Form
partial_dictionary_definition_spelling v =
    attributes_spelling v.attributes then terminal (codes "partial") v.partial
    then terminal (codes "dictionary") v.dictionary then identifier_spelling v.identifier
    then braced_spelling dictionary_members_spelling v.members then terminal (codes ";") v.semi_colon

-- an operation of a namespace
abbrev pub operation_namespace_member_spelling : OperationNamespaceMember → Form
operation_namespace_member_spelling v =
    optional docstring_spelling v.docstring then attributes_spelling v.attributes
    then return_type_spelling v.return_type then optional identifier_spelling v.identifier
    then arguments_spelling v.args then terminal (codes ";") v.semi_colon

-- an attribute of a namespace
abbrev pub attribute_namespace_member_spelling : AttributeNamespaceMember → Form
attribute_namespace_member_spelling v =
    optional docstring_spelling v.docstring then attributes_spelling v.attributes
    then terminal (codes "readonly") v.readonly then terminal (codes "attribute") v.attribute
    then attributed_type_spelling v.type_ then identifier_spelling v.identifier
    then terminal (codes ";") v.semi_colon

-- a member of a namespace
abbrev pub namespace_member_spelling : NamespaceMember → Form
namespace_member_spelling (NamespaceMember-Operation v) = operation_namespace_member_spelling v
namespace_member_spelling (NamespaceMember-Attribute v) = attribute_namespace_member_spelling v

-- the members of a namespace, one after another
abbrev pub namespace_members_spelling : Vec NamespaceMember → Form
namespace_members_spelling v = each namespace_member_spelling v.items

-- a namespace
abbrev pub namespace_definition_spelling : NamespaceDefinition → Form
namespace_definition_spelling v =
    optional docstring_spelling v.docstring then attributes_spelling v.attributes
    then terminal (codes "namespace") v.namespace then identifier_spelling v.identifier
    then braced_spelling namespace_members_spelling v.members then terminal (codes ";") v.semi_colon

-- a part of a namespace
abbrev pub partial_namespace_definition_spelling : PartialNamespaceDefinition → Form
partial_namespace_definition_spelling v =
    attributes_spelling v.attributes then terminal (codes "partial") v.partial
    then terminal (codes "namespace") v.namespace then identifier_spelling v.identifier
    then braced_spelling namespace_members_spelling v.members then terminal (codes ";") v.semi_colon

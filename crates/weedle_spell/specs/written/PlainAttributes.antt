-- How extended attributes without arguments are rendered.
-- Written by tools/spellings.py, and not edited by hand.
use Rattle.std.specs.Prelude.{codes}
use Rattle.weedle_base.specs.declared.term.written.symbols.Comma.{Comma}
use Rattle.weedle_parts.specs.declared.common.identifier.Identifier.{Identifier}
use Rattle.weedle_parts.specs.declared.common.punctuated.Punctuated.{Punctuated}
use Rattle.weedle_spell.specs.Forms.{Form, ◌then◌}
use Rattle.weedle_spell.specs.GenericParts.{parenthesized_spelling, punctuated_spelling}
use Rattle.weedle_spell.specs.Leaves.{identifier_spelling, string_spelling, terminal}
use Rattle.weedle_spell.specs.Tokens.{word}
use Rattle.weedle_types.specs.declared.attribute.ExtendedAttributeIdent.{ExtendedAttributeIdent}
use Rattle.weedle_types.specs.declared.attribute.ExtendedAttributeIdentList.{ExtendedAttributeIdentList}
use Rattle.weedle_types.specs.declared.attribute.ExtendedAttributeNoArgs.{ExtendedAttributeNoArgs}
use Rattle.weedle_types.specs.declared.attribute.IdentifierOrString.TheVariants.{Identifier as IdentifierOrString-Identifier, String as IdentifierOrString-String}
use Rattle.weedle_types.specs.declared.attribute.IdentifierOrString.{IdentifierOrString}

-- a name or a string
abbrev pub identifier_or_string_spelling : IdentifierOrString → Form
identifier_or_string_spelling (IdentifierOrString-Identifier v) = identifier_spelling v
identifier_or_string_spelling (IdentifierOrString-String v) = string_spelling v

-- names, with `,` between them
abbrev pub identifier_list_spelling : Punctuated Identifier Comma → Form
identifier_list_spelling = punctuated_spelling identifier_spelling (word (codes ","))

-- an extended attribute with a name or a string
abbrev pub extended_attribute_ident_spelling : ExtendedAttributeIdent → Form
extended_attribute_ident_spelling v =
    identifier_spelling v.lhs_identifier then terminal (codes "=") v.assign
    then identifier_or_string_spelling v.rhs

-- an extended attribute with names
abbrev pub extended_attribute_ident_list_spelling : ExtendedAttributeIdentList → Form
extended_attribute_ident_list_spelling v =
    identifier_spelling v.identifier then terminal (codes "=") v.assign
    then parenthesized_spelling identifier_list_spelling v.list

-- an extended attribute that is a name alone
abbrev pub extended_attribute_no_args_spelling : ExtendedAttributeNoArgs → Form
extended_attribute_no_args_spelling v = identifier_spelling v.0

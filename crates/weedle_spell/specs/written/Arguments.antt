-- How extended attributes and arguments are rendered.
-- Written by tools/spellings.py, and not edited by hand.
use Rattle.std.specs.Prelude.{Option, codes}
use Rattle.weedle_base.specs.declared.term.written.symbols.Comma.{Comma}
use Rattle.weedle_parts.specs.declared.common.brackets.Bracketed.{Bracketed}
use Rattle.weedle_parts.specs.declared.common.punctuated.Punctuated.{Punctuated}
use Rattle.weedle_spell.specs.Forms.{Form, optional, ◌then◌}
use Rattle.weedle_spell.specs.GenericParts.{bracketed_spelling, punctuated_spelling}
use Rattle.weedle_spell.specs.Leaves.{identifier_spelling, terminal}
use Rattle.weedle_spell.specs.RecursiveTypes.{argument_spelling, default_where_optional, extended_attribute_spelling, type_spelling}
use Rattle.weedle_spell.specs.Tokens.{word}
use Rattle.weedle_types.specs.declared.argument.Argument.{Argument}
use Rattle.weedle_types.specs.declared.argument.ParenthesizedArgumentList.{ParenthesizedArgumentList}
use Rattle.weedle_types.specs.declared.argument.SingleArgument.{SingleArgument}
use Rattle.weedle_types.specs.declared.argument.VariadicArgument.{VariadicArgument}
use Rattle.weedle_types.specs.declared.attribute.ExtendedAttribute.{ExtendedAttribute}
use Rattle.weedle_types.specs.declared.attribute.ExtendedAttributeArgList.{ExtendedAttributeArgList}
use Rattle.weedle_types.specs.declared.attribute.ExtendedAttributeNamedArgList.{ExtendedAttributeNamedArgList}

-- arguments, with `,` between them
abbrev pub argument_list_spelling : Punctuated Argument Comma → Form
argument_list_spelling = punctuated_spelling argument_spelling (word (codes ","))

-- arguments in parentheses
abbrev pub arguments_spelling : ParenthesizedArgumentList → Form
arguments_spelling v =
    terminal (codes "(") v.open_paren then argument_list_spelling v.body
    then terminal (codes ")") v.close_paren

-- an extended attribute with arguments
abbrev pub extended_attribute_arg_list_spelling : ExtendedAttributeArgList → Form
extended_attribute_arg_list_spelling v = identifier_spelling v.identifier then arguments_spelling v.args

-- an extended attribute with a name and arguments
abbrev pub extended_attribute_named_arg_list_spelling : ExtendedAttributeNamedArgList → Form
extended_attribute_named_arg_list_spelling v =
    identifier_spelling v.lhs_identifier then terminal (codes "=") v.assign
    then identifier_spelling v.rhs_identifier then arguments_spelling v.args

-- extended attributes in brackets
abbrev pub extended_attribute_list_spelling : Bracketed (Punctuated ExtendedAttribute Comma) → Form
extended_attribute_list_spelling =
    bracketed_spelling (punctuated_spelling extended_attribute_spelling (word (codes ",")))

-- extended attributes, or none
abbrev pub attributes_spelling : Option (Bracketed (Punctuated ExtendedAttribute Comma)) → Form
attributes_spelling = optional extended_attribute_list_spelling

-- an argument; its default is there only where `optional` is
abbrev pub single_argument_spelling : SingleArgument → Form
single_argument_spelling v =
    (attributes_spelling v.attributes then optional (terminal (codes "optional")) v.optional
    then (attributes_spelling v.type_.attributes then type_spelling v.type_.type_)
    then identifier_spelling v.identifier) then default_where_optional v.optional v.default

-- any number of arguments
abbrev pub variadic_argument_spelling : VariadicArgument → Form
variadic_argument_spelling v =
    attributes_spelling v.attributes then type_spelling v.type_ then terminal (codes "...") v.ellipsis
    then identifier_spelling v.identifier

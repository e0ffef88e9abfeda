-- How definitions without members are rendered.
-- Written by tools/spellings.py, and not edited by hand.
use Rattle.std.specs.Prelude.{codes}
use Rattle.weedle_base.specs.declared.term.written.symbols.Comma.{Comma}
use Rattle.weedle_parts.specs.declared.common.punctuated.PunctuatedNonEmpty.{PunctuatedNonEmpty}
use Rattle.weedle_spell.specs.Forms.{Form, optional, ◌then◌}
use Rattle.weedle_spell.specs.GenericParts.{braced_spelling, punctuated_non_empty_spelling}
use Rattle.weedle_spell.specs.Leaves.{docstring_spelling, identifier_spelling, string_spelling, terminal}
use Rattle.weedle_spell.specs.Tokens.{word}
use Rattle.weedle_spell.specs.written.Arguments.{arguments_spelling, attributes_spelling}
use Rattle.weedle_spell.specs.written.Types.{attributed_type_spelling, return_type_spelling}
use Rattle.weedle_statements.specs.declared.callback.CallbackDefinition.{CallbackDefinition}
use Rattle.weedle_statements.specs.declared.enums.EnumDefinition.{EnumDefinition}
use Rattle.weedle_statements.specs.declared.enums.EnumVariant.{EnumVariant}
use Rattle.weedle_statements.specs.declared.statement.ImplementsDefinition.{ImplementsDefinition}
use Rattle.weedle_statements.specs.declared.statement.IncludesStatementDefinition.{IncludesStatementDefinition}
use Rattle.weedle_statements.specs.declared.typedef.TypedefDefinition.{TypedefDefinition}

-- a callback
abbrev pub callback_definition_spelling : CallbackDefinition → Form
callback_definition_spelling v =
    attributes_spelling v.attributes then terminal (codes "callback") v.callback
    then identifier_spelling v.identifier then terminal (codes "=") v.assign
    then return_type_spelling v.return_type then arguments_spelling v.arguments
    then terminal (codes ";") v.semi_colon

-- a value of an enum
abbrev pub enum_variant_spelling : EnumVariant → Form
enum_variant_spelling v = optional docstring_spelling v.docstring then string_spelling v.value

-- the values of an enum, with `,` between them
abbrev pub enum_value_list_spelling : PunctuatedNonEmpty EnumVariant Comma → Form
enum_value_list_spelling = punctuated_non_empty_spelling enum_variant_spelling (word (codes ","))

-- an enum
abbrev pub enum_definition_spelling : EnumDefinition → Form
enum_definition_spelling v =
    optional docstring_spelling v.docstring then attributes_spelling v.attributes
    then terminal (codes "enum") v.enum_ then identifier_spelling v.identifier
    then braced_spelling enum_value_list_spelling v.values then terminal (codes ";") v.semi_colon

-- the use of a mixin by an interface
abbrev pub includes_statement_definition_spelling : IncludesStatementDefinition → Form
includes_statement_definition_spelling v =
    attributes_spelling v.attributes then identifier_spelling v.lhs_identifier
    then terminal (codes "includes") v.includes then identifier_spelling v.rhs_identifier
    then terminal (codes ";") v.semi_colon

-- the older form of a mixin's use
abbrev pub implements_definition_spelling : ImplementsDefinition → Form
implements_definition_spelling v =
    attributes_spelling v.attributes then identifier_spelling v.lhs_identifier
    then terminal (codes "implements") v.includes then identifier_spelling v.rhs_identifier
    then terminal (codes ";") v.semi_colon

-- a name for a type
abbrev pub typedef_definition_spelling : TypedefDefinition → Form
typedef_definition_spelling v =
    attributes_spelling v.attributes then terminal (codes "typedef") v.typedef
    then attributed_type_spelling v.type_ then identifier_spelling v.identifier
    then terminal (codes ";") v.semi_colon

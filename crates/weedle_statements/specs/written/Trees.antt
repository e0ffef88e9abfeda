-- The trees of definitions without members.
use Rattle.std.specs.Prelude.{[], ◌∷◌}
use Rattle.weedle_base.specs.Rules.{option_tree}
use Rattle.weedle_base.specs.declared.term.written.symbols.Comma.{Comma}
use Rattle.weedle_grammar.specs.Trees.{Mark, Node, Tree, trees}
use Rattle.weedle_parts.specs.LiteralTrees.{string_tree}
use Rattle.weedle_parts.specs.ValueTrees.{braced_tree, docstring_tree, identifier_tree, punctuated_non_empty_tree}
use Rattle.weedle_parts.specs.declared.common.brackets.Braced.{Braced}
use Rattle.weedle_parts.specs.declared.common.punctuated.PunctuatedNonEmpty.{PunctuatedNonEmpty}
use Rattle.weedle_statements.specs.declared.callback.CallbackDefinition.{CallbackDefinition}
use Rattle.weedle_statements.specs.declared.enums.EnumDefinition.{EnumDefinition}
use Rattle.weedle_statements.specs.declared.enums.EnumVariant.{EnumVariant}
use Rattle.weedle_statements.specs.declared.statement.ImplementsDefinition.{ImplementsDefinition}
use Rattle.weedle_statements.specs.declared.statement.IncludesStatementDefinition.{IncludesStatementDefinition}
use Rattle.weedle_statements.specs.declared.typedef.TypedefDefinition.{TypedefDefinition}
use Rattle.weedle_types.specs.Trees.{arguments_tree, attributed_type_tree, attributes_tree, return_type_tree}

-- a callback: its extended attributes where present, `callback`, its name, `=`, the type of its
-- result, its arguments, `;`
abbrev pub callback_definition_tree : CallbackDefinition → Tree
callback_definition_tree v = Node (trees (attributes_tree v.attributes ∷ Mark ∷ identifier_tree v.identifier ∷ Mark ∷ return_type_tree v.return_type ∷ arguments_tree v.arguments ∷ Mark ∷ []))

-- a value of an enum: its docstring where present, its value
abbrev pub enum_variant_tree : EnumVariant → Tree
enum_variant_tree v = Node (trees (option_tree docstring_tree v.docstring ∷ string_tree v.value ∷ []))

-- the values of an enum between braces
abbrev pub EnumValues : Type 0
EnumValues = Braced (PunctuatedNonEmpty EnumVariant Comma)

-- the values, without what separates them
abbrev pub enum_values_tree : EnumValues → Tree
enum_values_tree = braced_tree (punctuated_non_empty_tree enum_variant_tree)

-- an enum: its docstring where present, its extended attributes where present, `enum`, its name,
-- its values, `;`
abbrev pub enum_definition_tree : EnumDefinition → Tree
enum_definition_tree v = Node (trees (option_tree docstring_tree v.docstring ∷ attributes_tree v.attributes ∷ Mark ∷ identifier_tree v.identifier ∷ enum_values_tree v.values ∷ Mark ∷ []))

-- the use of a mixin by an interface: its extended attributes where present, the name of the
-- interface, `includes`, the name of the mixin that it uses, `;`
abbrev pub includes_statement_definition_tree : IncludesStatementDefinition → Tree
includes_statement_definition_tree v = Node (trees (attributes_tree v.attributes ∷ identifier_tree v.lhs_identifier ∷ Mark ∷ identifier_tree v.rhs_identifier ∷ Mark ∷ []))

-- the older form of a mixin's use: its extended attributes where present, the name of the
-- interface, `implements`, the name of the interface that it implements, `;`
abbrev pub implements_definition_tree : ImplementsDefinition → Tree
implements_definition_tree v = Node (trees (attributes_tree v.attributes ∷ identifier_tree v.lhs_identifier ∷ Mark ∷ identifier_tree v.rhs_identifier ∷ Mark ∷ []))

-- a name for a type: its extended attributes where present, `typedef`, the type that is named, the
-- name that the type gets, `;`
abbrev pub typedef_definition_tree : TypedefDefinition → Tree
typedef_definition_tree v = Node (trees (attributes_tree v.attributes ∷ Mark ∷ attributed_type_tree v.type_ ∷ identifier_tree v.identifier ∷ Mark ∷ []))

-- The laws of definitions without members. Written by tools/spellings.py, and not edited by hand.
use Rattle.std.proofs.Common.{refl}
use Rattle.weedle_grammar.specs.written.Table.Definitions.{CALLBACK_DEFINITION, ENUM_DEFINITION, IMPLEMENTS_DEFINITION, INCLUDES_STATEMENT_DEFINITION, TYPEDEF_DEFINITION}
use Rattle.weedle_grammar.specs.written.Table.OtherMembers.{ENUM_VALUE_LIST, ENUM_VARIANT}
use Rattle.weedle_parts.specs.ValueTrees.{punctuated_non_empty_tree}
use Rattle.weedle_spell.proofs.LawFacts.{loose}
use Rattle.weedle_spell.proofs.LeafLaws.{docstring, identifier, string}
use Rattle.weedle_spell.proofs.PartFacts.{braced, punctuated_non_empty}
use Rattle.weedle_spell.proofs.Spelt.{IsSpelt, last, node, option_spelt, part}
use Rattle.weedle_spell.proofs.TriviaFacts.{keyword, symbol, symbol_always}
use Rattle.weedle_spell.proofs.written.ArgumentLaws.{arguments, attributes}
use Rattle.weedle_spell.proofs.written.TypeLaws.{attributed_type, return_type}
use Rattle.weedle_spell.specs.Laws.{SpellsValues}
use Rattle.weedle_spell_idl.specs.written.Statements.{callback_definition_spelling, enum_definition_spelling, enum_value_list_spelling, enum_variant_spelling, implements_definition_spelling, includes_statement_definition_spelling, typedef_definition_spelling}
use Rattle.weedle_statements.specs.written.Trees.{callback_definition_tree, enum_definition_tree, enum_variant_tree, implements_definition_tree, includes_statement_definition_tree, typedef_definition_tree}

pub callback_definition : IsSpelt CALLBACK_DEFINITION callback_definition_tree callback_definition_spelling
callback_definition v =
    node refl refl (part (attributes v.attributes) (part (keyword refl refl refl)
    (part (identifier v.identifier) (part (symbol refl refl refl) (part (return_type v.return_type)
    (part (arguments v.arguments) (last (symbol refl refl refl))))))))

pub enum_variant : IsSpelt ENUM_VARIANT enum_variant_tree enum_variant_spelling
enum_variant v =
    node refl refl (part (option_spelt refl refl refl docstring v.docstring) (last (string v.value)))

pub enum_value_list : IsSpelt ENUM_VALUE_LIST (punctuated_non_empty_tree enum_variant_tree) enum_value_list_spelling
enum_value_list =
    punctuated_non_empty enum_variant_tree enum_variant_spelling enum_variant refl (symbol_always refl refl)
    refl refl refl refl refl refl refl

pub enum_definition : IsSpelt ENUM_DEFINITION enum_definition_tree enum_definition_spelling
enum_definition v =
    node refl refl (part (option_spelt refl refl refl docstring v.docstring) (part (attributes v.attributes)
    (part (keyword refl refl refl) (part (identifier v.identifier)
    (part (braced (enum_value_list v.values.body) refl refl) (last (symbol refl refl refl)))))))

pub includes_statement_definition : IsSpelt INCLUDES_STATEMENT_DEFINITION includes_statement_definition_tree includes_statement_definition_spelling
includes_statement_definition v =
    node refl refl (part (attributes v.attributes) (part (identifier v.lhs_identifier)
    (part (keyword refl refl refl) (part (identifier v.rhs_identifier) (last (symbol refl refl refl))))))

pub implements_definition : IsSpelt IMPLEMENTS_DEFINITION implements_definition_tree implements_definition_spelling
implements_definition v =
    node refl refl (part (attributes v.attributes) (part (identifier v.lhs_identifier)
    (part (keyword refl refl refl) (part (identifier v.rhs_identifier) (last (symbol refl refl refl))))))

pub typedef_definition : IsSpelt TYPEDEF_DEFINITION typedef_definition_tree typedef_definition_spelling
typedef_definition v =
    node refl refl (part (attributes v.attributes) (part (keyword refl refl refl)
    (part (attributed_type v.type_) (part (identifier v.identifier) (last (symbol refl refl refl))))))

-- the laws
pub callback_definition_law : SpellsValues CALLBACK_DEFINITION callback_definition_tree callback_definition_spelling
callback_definition_law = loose callback_definition

pub enum_variant_law : SpellsValues ENUM_VARIANT enum_variant_tree enum_variant_spelling
enum_variant_law = loose enum_variant

pub enum_value_list_law : SpellsValues ENUM_VALUE_LIST (punctuated_non_empty_tree enum_variant_tree) enum_value_list_spelling
enum_value_list_law = loose enum_value_list

pub enum_definition_law : SpellsValues ENUM_DEFINITION enum_definition_tree enum_definition_spelling
enum_definition_law = loose enum_definition

pub includes_statement_definition_law : SpellsValues INCLUDES_STATEMENT_DEFINITION includes_statement_definition_tree includes_statement_definition_spelling
includes_statement_definition_law = loose includes_statement_definition

pub implements_definition_law : SpellsValues IMPLEMENTS_DEFINITION implements_definition_tree implements_definition_spelling
implements_definition_law = loose implements_definition

pub typedef_definition_law : SpellsValues TYPEDEF_DEFINITION typedef_definition_tree typedef_definition_spelling
typedef_definition_law = loose typedef_definition

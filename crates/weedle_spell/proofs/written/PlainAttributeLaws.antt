-- The laws of extended attributes without arguments.
-- Written by tools/spellings.py, and not edited by hand.
use Rattle.std.proofs.Common.{refl}
use Rattle.weedle_grammar.specs.written.Table.SimpleTypes.{IDENTIFIER_LIST}
use Rattle.weedle_grammar.specs.written.Table.Types.{EXTENDED_ATTRIBUTE_IDENT, EXTENDED_ATTRIBUTE_IDENT_LIST, EXTENDED_ATTRIBUTE_NO_ARGS, IDENTIFIER_OR_STRING}
use Rattle.weedle_parts.specs.ValueTrees.{identifier_tree, punctuated_tree}
use Rattle.weedle_spell.proofs.LawFacts.{loose}
use Rattle.weedle_spell.proofs.LeafLaws.{identifier, string}
use Rattle.weedle_spell.proofs.PartFacts.{parenthesized, punctuated}
use Rattle.weedle_spell.proofs.Spelt.{IsSpelt, alternative, last, node, part}
use Rattle.weedle_spell.proofs.TriviaFacts.{symbol, symbol_always}
use Rattle.weedle_spell.specs.Laws.{SpellsValues}
use Rattle.weedle_spell.specs.Leaves.{identifier_spelling}
use Rattle.weedle_spell.specs.written.PlainAttributes.{extended_attribute_ident_list_spelling, extended_attribute_ident_spelling, extended_attribute_no_args_spelling, identifier_list_spelling, identifier_or_string_spelling}
use Rattle.weedle_types.specs.Trees.{extended_attribute_ident_list_tree, extended_attribute_ident_tree, extended_attribute_no_args_tree, identifier_or_string_tree}
use Rattle.weedle_types.specs.declared.attribute.IdentifierOrString.TheVariants.{Identifier as IdentifierOrString-Identifier, String as IdentifierOrString-String}

pub identifier_or_string : IsSpelt IDENTIFIER_OR_STRING identifier_or_string_tree identifier_or_string_spelling
identifier_or_string (IdentifierOrString-Identifier v) = alternative 0 refl refl refl (identifier v)
identifier_or_string (IdentifierOrString-String v) = alternative 1 refl refl refl (string v)

pub identifier_list : IsSpelt IDENTIFIER_LIST (punctuated_tree identifier_tree) identifier_list_spelling
identifier_list =
    punctuated identifier_tree identifier_spelling identifier refl (symbol_always refl refl) refl refl refl
    refl

pub extended_attribute_ident : IsSpelt EXTENDED_ATTRIBUTE_IDENT extended_attribute_ident_tree extended_attribute_ident_spelling
extended_attribute_ident v =
    node refl refl (part (identifier v.lhs_identifier) (part (symbol refl refl refl)
    (last (identifier_or_string v.rhs))))

pub extended_attribute_ident_list : IsSpelt EXTENDED_ATTRIBUTE_IDENT_LIST extended_attribute_ident_list_tree extended_attribute_ident_list_spelling
extended_attribute_ident_list v =
    node refl refl (part (identifier v.identifier) (part (symbol refl refl refl)
    (last (parenthesized (identifier_list v.list.body) refl refl))))

pub extended_attribute_no_args : IsSpelt EXTENDED_ATTRIBUTE_NO_ARGS extended_attribute_no_args_tree extended_attribute_no_args_spelling
extended_attribute_no_args v = node refl refl (last (identifier v.0))

-- the laws
pub identifier_or_string_law : SpellsValues IDENTIFIER_OR_STRING identifier_or_string_tree identifier_or_string_spelling
identifier_or_string_law = loose identifier_or_string

pub identifier_list_law : SpellsValues IDENTIFIER_LIST (punctuated_tree identifier_tree) identifier_list_spelling
identifier_list_law = loose identifier_list

pub extended_attribute_ident_law : SpellsValues EXTENDED_ATTRIBUTE_IDENT extended_attribute_ident_tree extended_attribute_ident_spelling
extended_attribute_ident_law = loose extended_attribute_ident

pub extended_attribute_ident_list_law : SpellsValues EXTENDED_ATTRIBUTE_IDENT_LIST extended_attribute_ident_list_tree extended_attribute_ident_list_spelling
extended_attribute_ident_list_law = loose extended_attribute_ident_list

pub extended_attribute_no_args_law : SpellsValues EXTENDED_ATTRIBUTE_NO_ARGS extended_attribute_no_args_tree extended_attribute_no_args_spelling
extended_attribute_no_args_law = loose extended_attribute_no_args

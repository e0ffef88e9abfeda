-- The laws of arguments, and of extended attributes that may have arguments.
-- Written by tools/spellings.py, and not edited by hand.
use Rattle.std.proofs.Common.{refl}
use Rattle.weedle_grammar.specs.written.Table.Types.{ARGUMENT, ARGUMENT_LIST, EXTENDED_ATTRIBUTE, EXTENDED_ATTRIBUTE_ARG_LIST, EXTENDED_ATTRIBUTE_LIST, EXTENDED_ATTRIBUTE_NAMED_ARG_LIST, OPT_EXTENDED_ATTRIBUTE_LIST, PARENTHESIZED_ARGUMENT_LIST, SINGLE_ARGUMENT, VARIADIC_ARGUMENT}
use Rattle.weedle_spell.proofs.Conditional.{if_spelt}
use Rattle.weedle_spell.proofs.LawFacts.{loose}
use Rattle.weedle_spell.proofs.LeafLaws.{identifier}
use Rattle.weedle_spell.proofs.PartFacts.{bracketed, parenthesized, punctuated}
use Rattle.weedle_spell.proofs.RecursiveTypeFacts.{argument, default_absent, default_present, extended_attribute, type_}
use Rattle.weedle_spell.proofs.Spelt.{IsSpelt, last, node, option_spelt, part}
use Rattle.weedle_spell.proofs.TriviaFacts.{keyword, symbol, symbol_always}
use Rattle.weedle_spell.specs.Laws.{SpellsValues}
use Rattle.weedle_spell.specs.RecursiveTypes.{argument_spelling, extended_attribute_spelling}
use Rattle.weedle_spell.specs.written.Arguments.{argument_list_spelling, arguments_spelling, attributes_spelling, extended_attribute_arg_list_spelling, extended_attribute_list_spelling, extended_attribute_named_arg_list_spelling, single_argument_spelling, variadic_argument_spelling}
use Rattle.weedle_types.specs.Trees.{argument_list_tree, argument_tree, arguments_tree, attributes_tree, extended_attribute_arg_list_tree, extended_attribute_list_tree, extended_attribute_named_arg_list_tree, extended_attribute_tree, single_argument_tree, variadic_argument_tree}

pub argument_list : IsSpelt ARGUMENT_LIST argument_list_tree argument_list_spelling
argument_list =
    punctuated argument_tree argument_spelling argument refl (symbol_always refl refl) refl refl refl refl

pub arguments : IsSpelt PARENTHESIZED_ARGUMENT_LIST arguments_tree arguments_spelling
arguments v = parenthesized (argument_list v.body) refl refl

pub extended_attribute_arg_list : IsSpelt EXTENDED_ATTRIBUTE_ARG_LIST extended_attribute_arg_list_tree extended_attribute_arg_list_spelling
extended_attribute_arg_list v = node refl refl (part (identifier v.identifier) (last (arguments v.args)))

pub extended_attribute_named_arg_list : IsSpelt EXTENDED_ATTRIBUTE_NAMED_ARG_LIST extended_attribute_named_arg_list_tree extended_attribute_named_arg_list_spelling
extended_attribute_named_arg_list v =
    node refl refl (part (identifier v.lhs_identifier) (part (symbol refl refl refl)
    (part (identifier v.rhs_identifier) (last (arguments v.args)))))

pub extended_attribute_list : IsSpelt EXTENDED_ATTRIBUTE_LIST extended_attribute_list_tree extended_attribute_list_spelling
extended_attribute_list v =
    bracketed (punctuated extended_attribute_tree extended_attribute_spelling extended_attribute refl
    (symbol_always refl refl) refl refl refl refl v.body) refl refl

pub attributes : IsSpelt OPT_EXTENDED_ATTRIBUTE_LIST attributes_tree attributes_spelling
attributes = option_spelt refl refl refl extended_attribute_list

pub single_argument : IsSpelt SINGLE_ARGUMENT single_argument_tree single_argument_spelling
single_argument v =
    if_spelt refl refl (part (attributes v.attributes)
    (part (option_spelt refl refl refl (λ w. keyword refl refl refl) v.optional)
    (part (node refl refl (part (attributes v.type_.attributes) (last (type_ v.type_.type_))))
    (last (identifier v.identifier))))) (default_absent v.optional v.default)
    (default_present v.optional v.default) refl refl

pub variadic_argument : IsSpelt VARIADIC_ARGUMENT variadic_argument_tree variadic_argument_spelling
variadic_argument v =
    node refl refl (part (attributes v.attributes) (part (type_ v.type_) (part (symbol refl refl refl)
    (last (identifier v.identifier)))))

-- the laws
pub argument_law : SpellsValues ARGUMENT argument_tree argument_spelling
argument_law = loose argument

pub argument_list_law : SpellsValues ARGUMENT_LIST argument_list_tree argument_list_spelling
argument_list_law = loose argument_list

pub arguments_law : SpellsValues PARENTHESIZED_ARGUMENT_LIST arguments_tree arguments_spelling
arguments_law = loose arguments

pub extended_attribute_law : SpellsValues EXTENDED_ATTRIBUTE extended_attribute_tree extended_attribute_spelling
extended_attribute_law = loose extended_attribute

pub extended_attribute_arg_list_law : SpellsValues EXTENDED_ATTRIBUTE_ARG_LIST extended_attribute_arg_list_tree extended_attribute_arg_list_spelling
extended_attribute_arg_list_law = loose extended_attribute_arg_list

pub extended_attribute_named_arg_list_law : SpellsValues EXTENDED_ATTRIBUTE_NAMED_ARG_LIST extended_attribute_named_arg_list_tree extended_attribute_named_arg_list_spelling
extended_attribute_named_arg_list_law = loose extended_attribute_named_arg_list

pub extended_attribute_list_law : SpellsValues EXTENDED_ATTRIBUTE_LIST extended_attribute_list_tree extended_attribute_list_spelling
extended_attribute_list_law = loose extended_attribute_list

pub single_argument_law : SpellsValues SINGLE_ARGUMENT single_argument_tree single_argument_spelling
single_argument_law = loose single_argument

pub variadic_argument_law : SpellsValues VARIADIC_ARGUMENT variadic_argument_tree variadic_argument_spelling
variadic_argument_law = loose variadic_argument

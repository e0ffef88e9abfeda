-- The laws of literals and defaults.
use Rattle.std.proofs.Common.{codes, Bool, true, false, refl}
use Rattle.std.specs.Prelude.{if◌then◌else◌}
use Rattle.weedle_parts.specs.LiteralTrees.{integer_tree, float_tree, boolean_tree, empty_array_tree, empty_dictionary_tree, default_value_tree, const_value_tree, default_tree}
use Rattle.weedle_parts.specs.declared.literal.float.FloatLit.TheVariants.{Value, NegInfinity, Infinity, NaN}
use Rattle.weedle_parts.specs.declared.literal.integer.IntegerLit.TheVariants.{Dec, Hex, Oct}
use Rattle.weedle_parts.specs.declared.literal.value.ConstValue.TheVariants.{Boolean as ConstBoolean, Float as ConstFloat, Integer as ConstInteger, Null as ConstNull}
use Rattle.weedle_parts.specs.declared.literal.value.DefaultValue.TheVariants.{Boolean as DefaultBoolean, EmptyArray, EmptyDictionary, Float as DefaultFloat, Integer as DefaultInteger, Null as DefaultNull, String as DefaultString}
use Rattle.weedle_grammar.specs.written.Table.Literals.{INTEGER_LIT, FLOAT_LIT, BOOLEAN_LIT, EMPTY_ARRAY_LIT, EMPTY_DICTIONARY_LIT, DEFAULT_VALUE, CONST_VALUE, DEFAULT}
use Rattle.weedle_spell.specs.Laws.{SpellsValues}
use Rattle.weedle_spell.specs.Literals.{integer_spelling, float_spelling, boolean_spelling, empty_array_spelling, empty_dictionary_spelling, default_value_spelling, const_value_spelling, default_spelling}
use Rattle.weedle_spell.specs.Tokens.{word}
use Rattle.weedle_spell.proofs.LawFacts.{loose}
use Rattle.weedle_spell.proofs.LeafLaws.{dec, hex, oct, float_value, string}
use Rattle.weedle_spell.proofs.Spelt.{Spelt, IsSpelt, part, last, node, alternative}
use Rattle.weedle_spell.proofs.TriviaFacts.{symbol, keyword}

pub integer : IsSpelt INTEGER_LIT integer_tree integer_spelling
integer (Dec v) = alternative 0 refl refl refl (dec v)
integer (Hex v) = alternative 1 refl refl refl (hex v)
integer (Oct v) = alternative 2 refl refl refl (oct v)

pub float : IsSpelt FLOAT_LIT float_tree float_spelling
float (Value v) = alternative 0 refl refl refl (float_value v)
float (NegInfinity v) = alternative 1 refl refl refl (keyword refl refl refl)
float (Infinity v) = alternative 2 refl refl refl (keyword refl refl refl)
float (NaN v) = alternative 3 refl refl refl (keyword refl refl refl)

boolean_of : (b : Bool) → Spelt (Unit {0}) BOOLEAN_LIT (boolean_tree (record { 0 = b })) (word (if b then codes "true" else codes "false"))
boolean_of true = alternative 0 refl refl refl (keyword refl refl refl)
boolean_of false = alternative 1 refl refl refl (keyword refl refl refl)

pub boolean : IsSpelt BOOLEAN_LIT boolean_tree boolean_spelling
boolean v = boolean_of v.0

pub empty_array : IsSpelt EMPTY_ARRAY_LIT empty_array_tree empty_array_spelling
empty_array v = node refl refl (part (symbol refl refl refl) (last (symbol refl refl refl)))

pub empty_dictionary : IsSpelt EMPTY_DICTIONARY_LIT empty_dictionary_tree empty_dictionary_spelling
empty_dictionary v = node refl refl (part (symbol refl refl refl) (last (symbol refl refl refl)))

pub default_value : IsSpelt DEFAULT_VALUE default_value_tree default_value_spelling
default_value (DefaultBoolean v) = alternative 0 refl refl refl (boolean v)
default_value (EmptyArray v) = alternative 1 refl refl refl (empty_array v)
default_value (EmptyDictionary v) = alternative 2 refl refl refl (empty_dictionary v)
default_value (DefaultFloat v) = alternative 3 refl refl refl (float v)
default_value (DefaultInteger v) = alternative 4 refl refl refl (integer v)
default_value (DefaultNull v) = alternative 5 refl refl refl (keyword refl refl refl)
default_value (DefaultString v) = alternative 6 refl refl refl (string v)

pub const_value : IsSpelt CONST_VALUE const_value_tree const_value_spelling
const_value (ConstBoolean v) = alternative 0 refl refl refl (boolean v)
const_value (ConstFloat v) = alternative 1 refl refl refl (float v)
const_value (ConstInteger v) = alternative 2 refl refl refl (integer v)
const_value (ConstNull v) = alternative 3 refl refl refl (keyword refl refl refl)

pub default : IsSpelt DEFAULT default_tree default_spelling
default v = node refl refl (part (symbol refl refl refl) (last (default_value v.value)))

-- the laws
pub integer_law : SpellsValues INTEGER_LIT integer_tree integer_spelling
integer_law = loose integer

pub float_law : SpellsValues FLOAT_LIT float_tree float_spelling
float_law = loose float

pub boolean_law : SpellsValues BOOLEAN_LIT boolean_tree boolean_spelling
boolean_law = loose boolean

pub empty_array_law : SpellsValues EMPTY_ARRAY_LIT empty_array_tree empty_array_spelling
empty_array_law = loose empty_array

pub empty_dictionary_law : SpellsValues EMPTY_DICTIONARY_LIT empty_dictionary_tree empty_dictionary_spelling
empty_dictionary_law = loose empty_dictionary

pub default_value_law : SpellsValues DEFAULT_VALUE default_value_tree default_value_spelling
default_value_law = loose default_value

pub const_value_law : SpellsValues CONST_VALUE const_value_tree const_value_spelling
const_value_law = loose const_value

pub default_law : SpellsValues DEFAULT default_tree default_spelling
default_law = loose default

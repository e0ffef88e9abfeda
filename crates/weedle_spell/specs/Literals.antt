-- How literals are rendered, and defaults.
use Rattle.std.specs.Prelude.{codes, if◌then◌else◌}
use Rattle.weedle_parts.specs.declared.literal.default.Default.{Default}
use Rattle.weedle_parts.specs.declared.literal.boolean.BooleanLit.{BooleanLit}
use Rattle.weedle_parts.specs.declared.literal.empty.EmptyArrayLit.{EmptyArrayLit}
use Rattle.weedle_parts.specs.declared.literal.empty.EmptyDictionaryLit.{EmptyDictionaryLit}
use Rattle.weedle_parts.specs.declared.literal.float.FloatLit.{FloatLit}
use Rattle.weedle_parts.specs.declared.literal.float.FloatLit.TheVariants.{Value, NegInfinity, Infinity, NaN}
use Rattle.weedle_parts.specs.declared.literal.integer.IntegerLit.{IntegerLit}
use Rattle.weedle_parts.specs.declared.literal.integer.IntegerLit.TheVariants.{Dec, Hex, Oct}
use Rattle.weedle_parts.specs.declared.literal.value.ConstValue.{ConstValue}
use Rattle.weedle_parts.specs.declared.literal.value.ConstValue.TheVariants.{Boolean as ConstBoolean, Float as ConstFloat, Integer as ConstInteger, Null as ConstNull}
use Rattle.weedle_parts.specs.declared.literal.value.DefaultValue.{DefaultValue}
use Rattle.weedle_parts.specs.declared.literal.value.DefaultValue.TheVariants.{Boolean as DefaultBoolean, EmptyArray, EmptyDictionary, Float as DefaultFloat, Integer as DefaultInteger, Null as DefaultNull, String as DefaultString}
use Rattle.weedle_spell.specs.Forms.{Form, ◌then◌}
use Rattle.weedle_spell.specs.Leaves.{terminal, dec_spelling, hex_spelling, oct_spelling, float_value_spelling, string_spelling}
use Rattle.weedle_spell.specs.Tokens.{word}

-- a whole number
abbrev pub integer_spelling : IntegerLit → Form
integer_spelling (Dec v) = dec_spelling v
integer_spelling (Hex v) = hex_spelling v
integer_spelling (Oct v) = oct_spelling v

-- a float
abbrev pub float_spelling : FloatLit → Form
float_spelling (Value v) = float_value_spelling v
float_spelling (NegInfinity v) = terminal (codes "-Infinity") v
float_spelling (Infinity v) = terminal (codes "Infinity") v
float_spelling (NaN v) = terminal (codes "NaN") v

-- a boolean
abbrev pub boolean_spelling : BooleanLit → Form
boolean_spelling v = word (if v.0 then codes "true" else codes "false")

-- an empty list
abbrev pub empty_array_spelling : EmptyArrayLit → Form
empty_array_spelling v = terminal (codes "[") v.open_bracket then terminal (codes "]") v.close_bracket

-- an empty dictionary
abbrev pub empty_dictionary_spelling : EmptyDictionaryLit → Form
empty_dictionary_spelling v = terminal (codes "{") v.open_brace then terminal (codes "}") v.close_brace

-- the value of a default
abbrev pub default_value_spelling : DefaultValue → Form
default_value_spelling (DefaultBoolean v) = boolean_spelling v
default_value_spelling (EmptyArray v) = empty_array_spelling v
default_value_spelling (EmptyDictionary v) = empty_dictionary_spelling v
default_value_spelling (DefaultFloat v) = float_spelling v
default_value_spelling (DefaultInteger v) = integer_spelling v
default_value_spelling (DefaultNull v) = terminal (codes "null") v
default_value_spelling (DefaultString v) = string_spelling v

-- the value of a constant
abbrev pub const_value_spelling : ConstValue → Form
const_value_spelling (ConstBoolean v) = boolean_spelling v
const_value_spelling (ConstFloat v) = float_spelling v
const_value_spelling (ConstInteger v) = integer_spelling v
const_value_spelling (ConstNull v) = terminal (codes "null") v

-- a default
abbrev pub default_spelling : Default → Form
default_spelling v = terminal (codes "=") v.assign then default_value_spelling v.value

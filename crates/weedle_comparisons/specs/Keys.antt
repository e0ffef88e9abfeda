-- What values are compared by. The key of an enum begins with the place of the variant in the
-- declaration, counted from 0, and goes on with what the variant holds.
use Rattle.std.specs.Prelude.{ℕ, List, [], ◌∷◌, Bool, true, false, if◌then◌else◌, Option, Some, None, map}
use Rattle.weedle_base.specs.declared.fault.Err.{Err}
use Rattle.weedle_base.specs.declared.fault.Err.TheVariants.{Error, Failure}
use Rattle.weedle_parts.specs.declared.common.identifier.Identifier.{Identifier}
use Rattle.weedle_parts.specs.declared.types.integer.IntegerType.{IntegerType}
use Rattle.weedle_parts.specs.declared.types.integer.IntegerType.TheVariants.{LongLong, Long, Short}
use Rattle.weedle_parts.specs.declared.literal.integer.IntegerLit.{IntegerLit}
use Rattle.weedle_parts.specs.declared.literal.integer.IntegerLit.TheVariants.{Dec, Hex, Oct}
use Rattle.weedle_parts.specs.declared.literal.float.FloatLit.{FloatLit}
use Rattle.weedle_parts.specs.declared.literal.float.FloatLit.TheVariants.{Value, NegInfinity, Infinity, NaN}
use Rattle.weedle_parts.specs.declared.literal.value.ConstValue.{ConstValue}
use Rattle.weedle_parts.specs.declared.literal.value.ConstValue.TheVariants.{Boolean as ConstBoolean, Float as ConstFloat, Integer as ConstInteger, Null as ConstNull}
use Rattle.weedle_parts.specs.declared.literal.value.DefaultValue.{DefaultValue}
use Rattle.weedle_parts.specs.declared.literal.value.DefaultValue.TheVariants.{Boolean as DefaultBoolean, EmptyArray, EmptyDictionary, Float as DefaultFloat, Integer as DefaultInteger, Null as DefaultNull, String as DefaultString}
use Rattle.weedle_parts.specs.declared.modifier.Special.{Special}
use Rattle.weedle_parts.specs.declared.modifier.Special.TheVariants.{Getter, Setter, Deleter, LegacyCaller}
use Rattle.weedle_types.specs.declared.attribute.IdentifierOrString.{IdentifierOrString}
use Rattle.weedle_types.specs.declared.attribute.IdentifierOrString.TheVariants.{Identifier as Named, String as Quoted}

-- None comes first
abbrev pub option_key : {A : Type 0} → Option A → ℕ
option_key None = 0
option_key (Some x) = 1

-- false comes first
abbrev pub bool_key : Bool → ℕ
bool_key b = if b then 1 else 0

-- whether a call that reads had to end
abbrev pub is_failure : {E : Type 0} → Err E → Bool
is_failure (Error e) = false
is_failure (Failure e) = true

-- what ended it
abbrev pub fault_of : {E : Type 0} → Err E → E
fault_of (Error e) = e
fault_of (Failure e) = e

-- the texts of names
abbrev pub texts_of : List Identifier → List (List ℕ)
texts_of names = map (λ name. name.0.now) names

-- a type of integers: `long long`, `long` or `short`, and then whether it is `unsigned`
abbrev pub integer_type_key : IntegerType → List ℕ
integer_type_key (LongLong t) = 0 ∷ option_key t.unsigned ∷ []
integer_type_key (Long t) = 1 ∷ option_key t.unsigned ∷ []
integer_type_key (Short t) = 2 ∷ option_key t.unsigned ∷ []

-- a whole number: decimal, hexadecimal or octal, and then its text
abbrev pub integer_key : IntegerLit → List ℕ
integer_key (Dec v) = 0 ∷ v.0.now
integer_key (Hex v) = 1 ∷ v.0.now
integer_key (Oct v) = 2 ∷ v.0.now

-- a float: a number, and then its text, or one of the three words
abbrev pub float_key : FloatLit → List ℕ
float_key (Value v) = 0 ∷ v.0.now
float_key (NegInfinity v) = 1 ∷ []
float_key (Infinity v) = 2 ∷ []
float_key (NaN v) = 3 ∷ []

-- the value of a constant
abbrev pub const_value_key : ConstValue → List ℕ
const_value_key (ConstBoolean v) = 0 ∷ bool_key v.0 ∷ []
const_value_key (ConstFloat v) = 1 ∷ float_key v
const_value_key (ConstInteger v) = 2 ∷ integer_key v
const_value_key (ConstNull v) = 3 ∷ []

-- the value of a default
abbrev pub default_value_key : DefaultValue → List ℕ
default_value_key (DefaultBoolean v) = 0 ∷ bool_key v.0 ∷ []
default_value_key (EmptyArray v) = 1 ∷ []
default_value_key (EmptyDictionary v) = 2 ∷ []
default_value_key (DefaultFloat v) = 3 ∷ float_key v
default_value_key (DefaultInteger v) = 4 ∷ integer_key v
default_value_key (DefaultNull v) = 5 ∷ []
default_value_key (DefaultString v) = 6 ∷ v.0.now

-- the word of a special operation
abbrev pub special_key : Special → ℕ
special_key (Getter v) = 0
special_key (Setter v) = 1
special_key (Deleter v) = 2
special_key (LegacyCaller v) = 3

-- a name or a string, and then its text
abbrev pub identifier_or_string_key : IdentifierOrString → List ℕ
identifier_or_string_key (Named v) = 0 ∷ v.0.now
identifier_or_string_key (Quoted v) = 1 ∷ v.0.now

-- How the types that hold no other type are rendered.
use Rattle.std.specs.Prelude.{codes}
use Rattle.weedle_parts.specs.declared.types.const_type.ConstType.{ConstType}
use Rattle.weedle_parts.specs.declared.types.const_type.ConstType.TheVariants.{Integer, FloatingPoint, Boolean, Byte, Octet, Identifier as Named}
use Rattle.weedle_parts.specs.declared.types.floating_point.DoubleType.{DoubleType}
use Rattle.weedle_parts.specs.declared.types.floating_point.FloatType.{FloatType}
use Rattle.weedle_parts.specs.declared.types.floating_point.FloatingPointType.{FloatingPointType}
use Rattle.weedle_parts.specs.declared.types.floating_point.FloatingPointType.TheVariants.{Float, Double}
use Rattle.weedle_parts.specs.declared.types.integer.IntegerType.{IntegerType}
use Rattle.weedle_parts.specs.declared.types.integer.IntegerType.TheVariants.{LongLong, Long, Short}
use Rattle.weedle_parts.specs.declared.types.integer.LongLongType.{LongLongType}
use Rattle.weedle_parts.specs.declared.types.integer.LongType.{LongType}
use Rattle.weedle_parts.specs.declared.types.integer.ShortType.{ShortType}
use Rattle.weedle_spell.specs.Forms.{Form, ◌then◌, optional}
use Rattle.weedle_spell.specs.GenericParts.{may_be_null_spelling}
use Rattle.weedle_spell.specs.Leaves.{terminal, identifier_spelling}

-- a `long long`
abbrev pub long_long_type_spelling : LongLongType → Form
long_long_type_spelling v = optional (terminal (codes "unsigned")) v.unsigned then terminal (codes "long") v.long_long.0 then terminal (codes "long") v.long_long.1

-- a `long`
abbrev pub long_type_spelling : LongType → Form
long_type_spelling v = optional (terminal (codes "unsigned")) v.unsigned then terminal (codes "long") v.long

-- a `short`
abbrev pub short_type_spelling : ShortType → Form
short_type_spelling v = optional (terminal (codes "unsigned")) v.unsigned then terminal (codes "short") v.short

-- a type of integers
abbrev pub integer_type_spelling : IntegerType → Form
integer_type_spelling (LongLong v) = long_long_type_spelling v
integer_type_spelling (Long v) = long_type_spelling v
integer_type_spelling (Short v) = short_type_spelling v

-- a `float`
abbrev pub float_type_spelling : FloatType → Form
float_type_spelling v = optional (terminal (codes "unrestricted")) v.unrestricted then terminal (codes "float") v.float

-- a `double`
abbrev pub double_type_spelling : DoubleType → Form
double_type_spelling v = optional (terminal (codes "unrestricted")) v.unrestricted then terminal (codes "double") v.double

-- a type of floating point numbers
abbrev pub floating_point_type_spelling : FloatingPointType → Form
floating_point_type_spelling (Float v) = float_type_spelling v
floating_point_type_spelling (Double v) = double_type_spelling v

-- a constant's type
abbrev pub const_type_spelling : ConstType → Form
const_type_spelling (Integer v) = may_be_null_spelling integer_type_spelling v
const_type_spelling (FloatingPoint v) = may_be_null_spelling floating_point_type_spelling v
const_type_spelling (Boolean v) = may_be_null_spelling (terminal (codes "boolean")) v
const_type_spelling (Byte v) = may_be_null_spelling (terminal (codes "byte")) v
const_type_spelling (Octet v) = may_be_null_spelling (terminal (codes "octet")) v
const_type_spelling (Named v) = may_be_null_spelling identifier_spelling v

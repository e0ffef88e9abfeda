-- The words of values that are one word, or some.
use Rattle.std.specs.Prelude.{ℕ, List, codes, ◌++◌, Option, None, Some}
use Rattle.weedle_parts.specs.declared.modifier.Special.TheVariants.{Getter, Setter, Deleter, LegacyCaller}
use Rattle.weedle_parts.specs.declared.modifier.Special.{Special}
use Rattle.weedle_parts.specs.declared.modifier.StringifierOrInheritOrStatic.TheVariants.{Stringifier as OrInheritOrStatic-Stringifier, Inherit, Static as OrInheritOrStatic-Static}
use Rattle.weedle_parts.specs.declared.modifier.StringifierOrInheritOrStatic.{StringifierOrInheritOrStatic}
use Rattle.weedle_parts.specs.declared.modifier.StringifierOrStatic.TheVariants.{Stringifier as OrStatic-Stringifier, Static as OrStatic-Static}
use Rattle.weedle_parts.specs.declared.modifier.StringifierOrStatic.{StringifierOrStatic}
use Rattle.weedle_parts.specs.declared.types.floating_point.DoubleType.{DoubleType}
use Rattle.weedle_parts.specs.declared.types.floating_point.FloatType.{FloatType}
use Rattle.weedle_parts.specs.declared.types.floating_point.FloatingPointType.{FloatingPointType}
use Rattle.weedle_parts.specs.declared.types.floating_point.FloatingPointType.TheVariants.{Float, Double}
use Rattle.weedle_parts.specs.declared.types.integer.IntegerType.{IntegerType}
use Rattle.weedle_parts.specs.declared.types.integer.IntegerType.TheVariants.{LongLong, Long, Short}
use Rattle.weedle_parts.specs.declared.types.integer.LongLongType.{LongLongType}
use Rattle.weedle_parts.specs.declared.types.integer.LongType.{LongType}
use Rattle.weedle_parts.specs.declared.types.integer.ShortType.{ShortType}

-- a text, or behind another one where an optional word is
abbrev pub behind : {T : Type 0} → List ℕ → List ℕ → Option T → List ℕ
behind front text None = text
behind front text (Some word) = front ++ text

-- the words of a `long long`
abbrev pub long_long_words : LongLongType → List ℕ
long_long_words v = behind (codes "unsigned ") (codes "long long") v.unsigned

-- the words of a `long`
abbrev pub long_words : LongType → List ℕ
long_words v = behind (codes "unsigned ") (codes "long") v.unsigned

-- the words of a `short`
abbrev pub short_words : ShortType → List ℕ
short_words v = behind (codes "unsigned ") (codes "short") v.unsigned

-- the words of a type of integers
abbrev pub integer_words : IntegerType → List ℕ
integer_words (LongLong v) = long_long_words v
integer_words (Long v) = long_words v
integer_words (Short v) = short_words v

-- the words of a `float`
abbrev pub float_words : FloatType → List ℕ
float_words v = behind (codes "unrestricted ") (codes "float") v.unrestricted

-- the words of a `double`
abbrev pub double_words : DoubleType → List ℕ
double_words v = behind (codes "unrestricted ") (codes "double") v.unrestricted

-- the words of a type of floating point numbers
abbrev pub floating_point_words : FloatingPointType → List ℕ
floating_point_words (Float v) = float_words v
floating_point_words (Double v) = double_words v

-- the word of a special operation
abbrev pub special_word : Special → List ℕ
special_word (Getter v) = codes "getter"
special_word (Setter v) = codes "setter"
special_word (Deleter v) = codes "deleter"
special_word (LegacyCaller v) = codes "legacycaller"

-- the word before an attribute of an interface
abbrev pub stringifier_or_inherit_or_static_word : StringifierOrInheritOrStatic → List ℕ
stringifier_or_inherit_or_static_word (OrInheritOrStatic-Stringifier v) = codes "stringifier"
stringifier_or_inherit_or_static_word (Inherit v) = codes "inherit"
stringifier_or_inherit_or_static_word (OrInheritOrStatic-Static v) = codes "static"

-- the word before an operation
abbrev pub stringifier_or_static_word : StringifierOrStatic → List ℕ
stringifier_or_static_word (OrStatic-Stringifier v) = codes "stringifier"
stringifier_or_static_word (OrStatic-Static v) = codes "static"

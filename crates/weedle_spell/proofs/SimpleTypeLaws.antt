-- The laws of the types that hold no other type.
use Rattle.std.proofs.Common.{refl}
use Rattle.weedle_parts.specs.ValueTrees.{long_long_type_tree, long_type_tree, short_type_tree, integer_type_tree, float_type_tree, double_type_tree, floating_point_type_tree, const_type_tree}
use Rattle.weedle_parts.specs.declared.types.const_type.ConstType.TheVariants.{Integer, FloatingPoint, Boolean, Byte, Octet, Identifier as Named}
use Rattle.weedle_parts.specs.declared.types.floating_point.FloatingPointType.TheVariants.{Float, Double}
use Rattle.weedle_parts.specs.declared.types.integer.IntegerType.TheVariants.{LongLong, Long, Short}
use Rattle.weedle_grammar.specs.written.Table.SimpleTypes.{LONG_LONG_TYPE, LONG_TYPE, SHORT_TYPE, INTEGER_TYPE, FLOAT_TYPE, DOUBLE_TYPE, FLOATING_POINT_TYPE, CONST_TYPE}
use Rattle.weedle_spell.specs.Laws.{SpellsValues}
use Rattle.weedle_spell.specs.SimpleTypes.{long_long_type_spelling, long_type_spelling, short_type_spelling, integer_type_spelling, float_type_spelling, double_type_spelling, floating_point_type_spelling, const_type_spelling}
use Rattle.weedle_spell.proofs.LawFacts.{loose}
use Rattle.weedle_spell.proofs.LeafLaws.{identifier}
use Rattle.weedle_spell.proofs.PartFacts.{may_be_null}
use Rattle.weedle_spell.proofs.Spelt.{IsSpelt, part, last, node, alternative, option_spelt}
use Rattle.weedle_spell.proofs.TriviaFacts.{keyword}

pub long_long_type : IsSpelt LONG_LONG_TYPE long_long_type_tree long_long_type_spelling
long_long_type v =
    node refl refl (part (option_spelt refl refl refl (λ u. keyword refl refl refl) v.unsigned)
    (last (node refl refl (part (keyword refl refl refl) (last (keyword refl refl refl))))))

pub long_type : IsSpelt LONG_TYPE long_type_tree long_type_spelling
long_type v = node refl refl (part (option_spelt refl refl refl (λ u. keyword refl refl refl) v.unsigned) (last (keyword refl refl refl)))

pub short_type : IsSpelt SHORT_TYPE short_type_tree short_type_spelling
short_type v = node refl refl (part (option_spelt refl refl refl (λ u. keyword refl refl refl) v.unsigned) (last (keyword refl refl refl)))

pub integer_type : IsSpelt INTEGER_TYPE integer_type_tree integer_type_spelling
integer_type (LongLong v) = alternative 0 refl refl refl (long_long_type v)
integer_type (Long v) = alternative 1 refl refl refl (long_type v)
integer_type (Short v) = alternative 2 refl refl refl (short_type v)

pub float_type : IsSpelt FLOAT_TYPE float_type_tree float_type_spelling
float_type v = node refl refl (part (option_spelt refl refl refl (λ u. keyword refl refl refl) v.unrestricted) (last (keyword refl refl refl)))

pub double_type : IsSpelt DOUBLE_TYPE double_type_tree double_type_spelling
double_type v = node refl refl (part (option_spelt refl refl refl (λ u. keyword refl refl refl) v.unrestricted) (last (keyword refl refl refl)))

pub floating_point_type : IsSpelt FLOATING_POINT_TYPE floating_point_type_tree floating_point_type_spelling
floating_point_type (Float v) = alternative 0 refl refl refl (float_type v)
floating_point_type (Double v) = alternative 1 refl refl refl (double_type v)

pub const_type : IsSpelt CONST_TYPE const_type_tree const_type_spelling
const_type (Integer v) = alternative 0 refl refl refl (may_be_null (integer_type v.type_) refl refl refl refl v.q_mark)
const_type (FloatingPoint v) = alternative 1 refl refl refl (may_be_null (floating_point_type v.type_) refl refl refl refl v.q_mark)
const_type (Boolean v) = alternative 2 refl refl refl (may_be_null (keyword refl refl refl) refl refl refl refl v.q_mark)
const_type (Byte v) = alternative 3 refl refl refl (may_be_null (keyword refl refl refl) refl refl refl refl v.q_mark)
const_type (Octet v) = alternative 4 refl refl refl (may_be_null (keyword refl refl refl) refl refl refl refl v.q_mark)
const_type (Named v) = alternative 5 refl refl refl (may_be_null (identifier v.type_) refl refl refl refl v.q_mark)

-- the laws
pub long_long_type_law : SpellsValues LONG_LONG_TYPE long_long_type_tree long_long_type_spelling
long_long_type_law = loose long_long_type

pub long_type_law : SpellsValues LONG_TYPE long_type_tree long_type_spelling
long_type_law = loose long_type

pub short_type_law : SpellsValues SHORT_TYPE short_type_tree short_type_spelling
short_type_law = loose short_type

pub integer_type_law : SpellsValues INTEGER_TYPE integer_type_tree integer_type_spelling
integer_type_law = loose integer_type

pub float_type_law : SpellsValues FLOAT_TYPE float_type_tree float_type_spelling
float_type_law = loose float_type

pub double_type_law : SpellsValues DOUBLE_TYPE double_type_tree double_type_spelling
double_type_law = loose double_type

pub floating_point_type_law : SpellsValues FLOATING_POINT_TYPE floating_point_type_tree floating_point_type_spelling
floating_point_type_law = loose floating_point_type

pub const_type_law : SpellsValues CONST_TYPE const_type_tree const_type_spelling
const_type_law = loose const_type

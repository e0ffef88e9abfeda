-- How types between angle brackets are read, and that this is what their rules read.
use Rattle.std.proofs.Common.{refl}
use Rattle.weedle_base.proofs.RuleFacts.{mark, own_rule, triple_rule}
use Rattle.weedle_base.specs.Generic.{pair_reading, seen_reading}
use Rattle.weedle_base.specs.Own.{own}
use Rattle.weedle_base.specs.Reading.{Reading}
use Rattle.weedle_base.specs.Rules.{IsRule}
use Rattle.weedle_parts.proofs.PartRules.{generics_rule}
use Rattle.weedle_parts.specs.Brackets.{generics_reading}
use Rattle.weedle_grammar.specs.written.Table.InterfaceMembers.{GENERICS_ATTRIBUTED_TYPE, GENERICS_KEY_AND_VALUE_TYPES, KEY_AND_VALUE_TYPES}
use Rattle.weedle_grammar.specs.written.Table.Symbols.{COMMA}
use Rattle.weedle_grammar.specs.written.Table.Types.{ATTRIBUTED_TYPE}
use Rattle.weedle_types.proofs.SharedRules.{word}
use Rattle.weedle_types.specs.GenericsTrees.{KeyAndValue, OneType, TwoTypes, key_and_value_tree, one_type_tree, two_types_tree}
use Rattle.weedle_types.specs.Trees.{attributed_type_tree}

attributed_type_rule : IsRule (own ATTRIBUTED_TYPE attributed_type_tree (Unit {0})) ATTRIBUTED_TYPE attributed_type_tree (Unit {0})
attributed_type_rule = own_rule ATTRIBUTED_TYPE attributed_type_tree (Unit {0})

-- a type between angle brackets
abbrev pub one_type_reading : Reading OneType
one_type_reading = generics_reading (own ATTRIBUTED_TYPE attributed_type_tree (Unit {0}))

pub one_type_rule : IsRule one_type_reading GENERICS_ATTRIBUTED_TYPE one_type_tree (Unit {0})
one_type_rule = generics_rule attributed_type_rule GENERICS_ATTRIBUTED_TYPE refl refl

-- the types of keys and values
abbrev key_and_value_reading : Reading KeyAndValue
key_and_value_reading = seen_reading (λ v. (v.0, (v.1, v.2))) (pair_reading (own ATTRIBUTED_TYPE attributed_type_tree (Unit {0})) (pair_reading (mark COMMA) (own ATTRIBUTED_TYPE attributed_type_tree (Unit {0}))))

key_and_value_rule : IsRule key_and_value_reading KEY_AND_VALUE_TYPES key_and_value_tree (Unit {0})
key_and_value_rule = triple_rule (λ v. (v.0, (v.1, v.2))) attributed_type_rule (word COMMA) attributed_type_rule KEY_AND_VALUE_TYPES refl refl

-- the types of keys and values between angle brackets
abbrev pub two_types_reading : Reading TwoTypes
two_types_reading = generics_reading key_and_value_reading

pub two_types_rule : IsRule two_types_reading GENERICS_KEY_AND_VALUE_TYPES two_types_tree (Unit {0})
two_types_rule = generics_rule key_and_value_rule GENERICS_KEY_AND_VALUE_TYPES refl refl

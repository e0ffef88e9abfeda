-- The laws of types. Written by tools/spellings.py, and not edited by hand.
use Rattle.std.proofs.Common.{refl}
use Rattle.weedle_grammar.specs.written.Table.Types.{ATTRIBUTED_NON_ANY_TYPE, ATTRIBUTED_TYPE, FROZEN_ARRAY_TYPE, NON_ANY_TYPE, PROMISE_TYPE, RECORD_KEY_TYPE, RECORD_TYPE, RECORD_TYPES, RETURN_TYPE, SEQUENCE_TYPE, SINGLE_TYPE, TYPE, UNION_MEMBER_TYPE, UNION_TYPE}
use Rattle.weedle_spell.proofs.LawFacts.{loose}
use Rattle.weedle_spell.proofs.PartFacts.{generics, parenthesized, punctuated}
use Rattle.weedle_spell.proofs.RecursiveTypeFacts.{non_any_type, type_, union_member_type}
use Rattle.weedle_spell.proofs.Spelt.{IsSpelt, alternative, last, node, part}
use Rattle.weedle_spell.proofs.TriviaFacts.{keyword, keyword_always, symbol}
use Rattle.weedle_spell.proofs.written.ArgumentLaws.{attributes}
use Rattle.weedle_spell.specs.Laws.{SpellsValues}
use Rattle.weedle_spell.specs.RecursiveTypes.{non_any_type_spelling, type_spelling, union_member_type_spelling}
use Rattle.weedle_spell.specs.written.Types.{attributed_non_any_type_spelling, attributed_type_spelling, frozen_array_type_spelling, promise_type_spelling, record_key_type_spelling, record_type_spelling, record_types_spelling, return_type_spelling, sequence_type_spelling, single_type_spelling, union_type_spelling}
use Rattle.weedle_types.specs.Trees.{attributed_non_any_type_tree, attributed_type_tree, frozen_array_type_tree, non_any_type_tree, promise_type_tree, record_key_type_tree, record_type_tree, record_types_tree, return_type_tree, sequence_type_tree, single_type_tree, type_tree, union_member_type_tree, union_type_tree}
use Rattle.weedle_types.specs.declared.formers.RecordKeyType.TheVariants.{Byte as RecordKeyType-Byte, DOM as RecordKeyType-DOM, USV as RecordKeyType-USV, NonAny as RecordKeyType-NonAny}
use Rattle.weedle_types.specs.declared.formers.ReturnType.TheVariants.{Undefined as ReturnType-Undefined, Type_ as ReturnType-Type_}
use Rattle.weedle_types.specs.declared.formers.SingleType.TheVariants.{Any as SingleType-Any, NonAny as SingleType-NonAny}

pub single_type : IsSpelt SINGLE_TYPE single_type_tree single_type_spelling
single_type (SingleType-Any v) = alternative 0 refl refl refl (keyword refl refl refl)
single_type (SingleType-NonAny v) = alternative 1 refl refl refl (non_any_type v)

pub return_type : IsSpelt RETURN_TYPE return_type_tree return_type_spelling
return_type (ReturnType-Undefined v) = alternative 0 refl refl refl (keyword refl refl refl)
return_type (ReturnType-Type_ v) = alternative 1 refl refl refl (type_ v)

pub record_key_type : IsSpelt RECORD_KEY_TYPE record_key_type_tree record_key_type_spelling
record_key_type (RecordKeyType-Byte v) = alternative 0 refl refl refl (keyword refl refl refl)
record_key_type (RecordKeyType-DOM v) = alternative 1 refl refl refl (keyword refl refl refl)
record_key_type (RecordKeyType-USV v) = alternative 2 refl refl refl (keyword refl refl refl)
record_key_type (RecordKeyType-NonAny v) = alternative 3 refl refl refl (non_any_type v)

pub record_types : IsSpelt RECORD_TYPES record_types_tree record_types_spelling
record_types v =
    node refl refl (part (record_key_type v.0.value) (part (symbol refl refl refl) (last (type_ v.2.value))))

pub sequence_type : IsSpelt SEQUENCE_TYPE sequence_type_tree sequence_type_spelling
sequence_type v =
    node refl refl (part (keyword refl refl refl) (last (generics (type_ v.generics.body.value) refl refl)))

pub frozen_array_type : IsSpelt FROZEN_ARRAY_TYPE frozen_array_type_tree frozen_array_type_spelling
frozen_array_type v =
    node refl refl (part (keyword refl refl refl) (last (generics (type_ v.generics.body.value) refl refl)))

pub promise_type : IsSpelt PROMISE_TYPE promise_type_tree promise_type_spelling
promise_type v =
    node refl refl (part (keyword refl refl refl)
    (last (generics (return_type v.generics.body.value) refl refl)))

pub record_type : IsSpelt RECORD_TYPE record_type_tree record_type_spelling
record_type v =
    node refl refl (part (keyword refl refl refl) (last (generics (record_types v.generics.body) refl refl)))

pub union_type : IsSpelt UNION_TYPE union_type_tree union_type_spelling
union_type v =
    parenthesized (punctuated union_member_type_tree union_member_type_spelling union_member_type refl
    (keyword_always refl refl) refl refl refl refl v.body) refl refl

pub attributed_type : IsSpelt ATTRIBUTED_TYPE attributed_type_tree attributed_type_spelling
attributed_type v = node refl refl (part (attributes v.attributes) (last (type_ v.type_)))

pub attributed_non_any_type : IsSpelt ATTRIBUTED_NON_ANY_TYPE attributed_non_any_type_tree attributed_non_any_type_spelling
attributed_non_any_type v = node refl refl (part (attributes v.attributes) (last (non_any_type v.type_)))

-- the laws
pub type_law : SpellsValues TYPE type_tree type_spelling
type_law = loose type_

pub non_any_type_law : SpellsValues NON_ANY_TYPE non_any_type_tree non_any_type_spelling
non_any_type_law = loose non_any_type

pub union_member_type_law : SpellsValues UNION_MEMBER_TYPE union_member_type_tree union_member_type_spelling
union_member_type_law = loose union_member_type

pub single_type_law : SpellsValues SINGLE_TYPE single_type_tree single_type_spelling
single_type_law = loose single_type

pub return_type_law : SpellsValues RETURN_TYPE return_type_tree return_type_spelling
return_type_law = loose return_type

pub record_key_type_law : SpellsValues RECORD_KEY_TYPE record_key_type_tree record_key_type_spelling
record_key_type_law = loose record_key_type

pub record_types_law : SpellsValues RECORD_TYPES record_types_tree record_types_spelling
record_types_law = loose record_types

pub sequence_type_law : SpellsValues SEQUENCE_TYPE sequence_type_tree sequence_type_spelling
sequence_type_law = loose sequence_type

pub frozen_array_type_law : SpellsValues FROZEN_ARRAY_TYPE frozen_array_type_tree frozen_array_type_spelling
frozen_array_type_law = loose frozen_array_type

pub promise_type_law : SpellsValues PROMISE_TYPE promise_type_tree promise_type_spelling
promise_type_law = loose promise_type

pub record_type_law : SpellsValues RECORD_TYPE record_type_tree record_type_spelling
record_type_law = loose record_type

pub union_type_law : SpellsValues UNION_TYPE union_type_tree union_type_spelling
union_type_law = loose union_type

pub attributed_type_law : SpellsValues ATTRIBUTED_TYPE attributed_type_tree attributed_type_spelling
attributed_type_law = loose attributed_type

pub attributed_non_any_type_law : SpellsValues ATTRIBUTED_NON_ANY_TYPE attributed_non_any_type_tree attributed_non_any_type_spelling
attributed_non_any_type_law = loose attributed_non_any_type

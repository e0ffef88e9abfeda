-- Types that hold no other types, a few at a time.
use Rattle.std.proofs.Common.{inl, inr, refl}
use Rattle.std.specs.Borrow.{Bor}
use Rattle.std.specs.Prelude.{List, ℕ, ◌⊎◌}
use Rattle.weedle_base.proofs.ChoiceFacts.{IsFirst, choice_tree, first_last, first_more}
use Rattle.weedle_base.proofs.RuleFacts.{mark, mark_rule, own_rule}
use Rattle.weedle_base.proofs.TakesFacts.{own_takes}
use Rattle.weedle_base.specs.Generic.{choice_reading}
use Rattle.weedle_base.specs.Own.{own}
use Rattle.weedle_base.specs.Reading.{Faults, Got, Reading}
use Rattle.weedle_base.specs.Rules.{mark_tree}
use Rattle.weedle_base.specs.declared.fault.Err.{Err as Fault}
use Rattle.weedle_base.specs.declared.fault.Error.{Error}
use Rattle.weedle_base.specs.declared.term.written.capitalized_keywords.ArrayBuffer.{ArrayBuffer}
use Rattle.weedle_base.specs.declared.term.written.capitalized_keywords.ArrayBufferView.{ArrayBufferView}
use Rattle.weedle_base.specs.declared.term.written.capitalized_keywords.BufferSource.{BufferSource}
use Rattle.weedle_base.specs.declared.term.written.capitalized_keywords.ByteString.{ByteString}
use Rattle.weedle_base.specs.declared.term.written.capitalized_keywords.DOMString.{DOMString}
use Rattle.weedle_base.specs.declared.term.written.capitalized_keywords.DataView.{DataView}
use Rattle.weedle_base.specs.declared.term.written.capitalized_keywords.Error.{Error as ErrorKeyword}
use Rattle.weedle_base.specs.declared.term.written.capitalized_keywords.Float32Array.{Float32Array}
use Rattle.weedle_base.specs.declared.term.written.capitalized_keywords.Float64Array.{Float64Array}
use Rattle.weedle_base.specs.declared.term.written.capitalized_keywords.Int16Array.{Int16Array}
use Rattle.weedle_base.specs.declared.term.written.capitalized_keywords.Int32Array.{Int32Array}
use Rattle.weedle_base.specs.declared.term.written.capitalized_keywords.Int8Array.{Int8Array}
use Rattle.weedle_base.specs.declared.term.written.capitalized_keywords.USVString.{USVString}
use Rattle.weedle_base.specs.declared.term.written.capitalized_keywords.Uint16Array.{Uint16Array}
use Rattle.weedle_base.specs.declared.term.written.capitalized_keywords.Uint32Array.{Uint32Array}
use Rattle.weedle_base.specs.declared.term.written.capitalized_keywords.Uint8Array.{Uint8Array}
use Rattle.weedle_base.specs.declared.term.written.capitalized_keywords.Uint8ClampedArray.{Uint8ClampedArray}
use Rattle.weedle_base.specs.declared.term.written.type_keywords.Boolean.{Boolean}
use Rattle.weedle_base.specs.declared.term.written.type_keywords.Byte.{Byte}
use Rattle.weedle_base.specs.declared.term.written.type_keywords.Object.{Object}
use Rattle.weedle_base.specs.declared.term.written.type_keywords.Octet.{Octet}
use Rattle.weedle_base.specs.declared.term.written.type_keywords.Symbol.{Symbol}
use Rattle.weedle_grammar.specs.Trees.{Alt}
use Rattle.weedle_grammar.specs.written.Table.CapitalizedKeywords.{ARRAY_BUFFER, ARRAY_BUFFER_VIEW, BUFFER_SOURCE, BYTE_STRING, DATA_VIEW, DOM_STRING, ERROR, FLOAT32_ARRAY, FLOAT64_ARRAY, INT16_ARRAY, INT32_ARRAY, INT8_ARRAY, UINT16_ARRAY, UINT32_ARRAY, UINT8_ARRAY, UINT8_CLAMPED_ARRAY, USV_STRING}
use Rattle.weedle_grammar.specs.written.Table.Keywords.{BOOLEAN, BYTE, OBJECT, OCTET, SYMBOL}
use Rattle.weedle_grammar.specs.written.Table.SimpleTypes.{FLOATING_POINT_TYPE, INTEGER_TYPE, MAY_BE_NULL_BOOLEAN, MAY_BE_NULL_BYTE, MAY_BE_NULL_FLOATING_POINT_TYPE, MAY_BE_NULL_INTEGER_TYPE, MAY_BE_NULL_OCTET}
use Rattle.weedle_grammar.specs.written.Table.Types.{MAY_BE_NULL_ARRAY_BUFFER, MAY_BE_NULL_ARRAY_BUFFER_VIEW, MAY_BE_NULL_BUFFER_SOURCE, MAY_BE_NULL_BYTE_STRING, MAY_BE_NULL_DATA_VIEW, MAY_BE_NULL_DOM_STRING, MAY_BE_NULL_ERROR, MAY_BE_NULL_FLOAT32_ARRAY, MAY_BE_NULL_FLOAT64_ARRAY, MAY_BE_NULL_INT16_ARRAY, MAY_BE_NULL_INT32_ARRAY, MAY_BE_NULL_INT8_ARRAY, MAY_BE_NULL_OBJECT, MAY_BE_NULL_SYMBOL, MAY_BE_NULL_UINT16_ARRAY, MAY_BE_NULL_UINT32_ARRAY, MAY_BE_NULL_UINT8_ARRAY, MAY_BE_NULL_UINT8_CLAMPED_ARRAY, MAY_BE_NULL_USV_STRING}
use Rattle.weedle_parts.proofs.PartRules.{may_be_null_rule}
use Rattle.weedle_parts.specs.MayBeNull.{may_be_null_reading}
use Rattle.weedle_parts.specs.ValueTrees.{floating_point_type_tree, integer_type_tree, may_be_null_tree}
use Rattle.weedle_parts.specs.declared.types.floating_point.FloatingPointType.{FloatingPointType}
use Rattle.weedle_parts.specs.declared.types.integer.IntegerType.{IntegerType}
use Rattle.weedle_parts.specs.declared.types.may_be_null.MayBeNull.{MayBeNull}
use Rattle.weedle_types.proofs.Direct.{direct_choice, fault_members, first_piece, got_members, members_first, pair_takes, seen_takes}
use Rattle.weedle_types.specs.Pieces.{after_sequence_rules, before_sequence_rules, float_arrays_rules, numbers_rules, objects_rules, signed_arrays_rules, strings_rules, unsigned_arrays_rules}
use Rattle.weedle_types.specs.Steps.{members}
use Rattle.weedle_types.specs.Trees.{non_any_type_tree}
use Rattle.weedle_types.specs.declared.types.NonAnyType.TheVariants.{ArrayBuffer as NonAnyType-ArrayBuffer, ArrayBufferView as NonAnyType-ArrayBufferView, Boolean as NonAnyType-Boolean, BufferSource as NonAnyType-BufferSource, Byte as NonAnyType-Byte, ByteString as NonAnyType-ByteString, DOMString as NonAnyType-DOMString, DataView as NonAnyType-DataView, Error as NonAnyType-Error, Float32Array as NonAnyType-Float32Array, Float64Array as NonAnyType-Float64Array, FloatingPoint as NonAnyType-FloatingPoint, Int16Array as NonAnyType-Int16Array, Int32Array as NonAnyType-Int32Array, Int8Array as NonAnyType-Int8Array, Integer as NonAnyType-Integer, Object as NonAnyType-Object, Octet as NonAnyType-Octet, Symbol as NonAnyType-Symbol, USVString as NonAnyType-USVString, Uint16Array as NonAnyType-Uint16Array, Uint32Array as NonAnyType-Uint32Array, Uint8Array as NonAnyType-Uint8Array, Uint8ClampedArray as NonAnyType-Uint8ClampedArray}
use Rattle.weedle_types.specs.declared.types.NonAnyType.{NonAnyType}

-- `numbers`
abbrev numbers_parts : Reading ((MayBeNull IntegerType) ⊎ ((MayBeNull FloatingPointType) ⊎ ((MayBeNull Boolean) ⊎ (MayBeNull Byte))))
numbers_parts = (choice_reading (may_be_null_reading (own INTEGER_TYPE integer_type_tree ⊥)) (choice_reading (may_be_null_reading (own FLOATING_POINT_TYPE floating_point_type_tree ⊥)) (choice_reading (may_be_null_reading (mark {V = Boolean} BOOLEAN)) (may_be_null_reading (mark {V = Byte} BYTE)))))

numbers_first : IsFirst numbers_parts numbers_rules 1 (choice_tree (λ v. Alt 1 (may_be_null_tree integer_type_tree v)) (choice_tree (λ v. Alt 2 (may_be_null_tree floating_point_type_tree v)) (choice_tree (λ v. Alt 3 (may_be_null_tree mark_tree v)) (λ v. Alt 4 (may_be_null_tree mark_tree v))))) ⊥
numbers_first = (first_more 1 (may_be_null_rule (own_rule INTEGER_TYPE integer_type_tree ⊥) MAY_BE_NULL_INTEGER_TYPE refl refl) (first_more 2 (may_be_null_rule (own_rule FLOATING_POINT_TYPE floating_point_type_tree ⊥) MAY_BE_NULL_FLOATING_POINT_TYPE refl refl) (first_more 3 (may_be_null_rule (mark_rule BOOLEAN) MAY_BE_NULL_BOOLEAN refl refl) (first_last 4 (may_be_null_rule (mark_rule BYTE) MAY_BE_NULL_BYTE refl refl)))))

pub numbers_got_0 : {s rest : List ℕ} {v : (MayBeNull IntegerType)} → Got numbers_parts s (inl v) rest → Got (members numbers_rules 1 non_any_type_tree ⊥) s (NonAnyType-Integer v) rest
numbers_got_0 {v = v} h = got_members numbers_first non_any_type_tree (NonAnyType-Integer v) h refl

pub numbers_got_1 : {s rest : List ℕ} {v : (MayBeNull FloatingPointType)} → Got numbers_parts s (inr (inl v)) rest → Got (members numbers_rules 1 non_any_type_tree ⊥) s (NonAnyType-FloatingPoint v) rest
numbers_got_1 {v = v} h = got_members numbers_first non_any_type_tree (NonAnyType-FloatingPoint v) h refl

pub numbers_got_2 : {s rest : List ℕ} {v : (MayBeNull Boolean)} → Got numbers_parts s (inr (inr (inl v))) rest → Got (members numbers_rules 1 non_any_type_tree ⊥) s (NonAnyType-Boolean v) rest
numbers_got_2 {v = v} h = got_members numbers_first non_any_type_tree (NonAnyType-Boolean v) h refl

pub numbers_got_3 : {s rest : List ℕ} {v : (MayBeNull Byte)} → Got numbers_parts s (inr (inr (inr v))) rest → Got (members numbers_rules 1 non_any_type_tree ⊥) s (NonAnyType-Byte v) rest
numbers_got_3 {v = v} h = got_members numbers_first non_any_type_tree (NonAnyType-Byte v) h refl

pub numbers_fault : {s : List ℕ} {e : Fault (Error (Bor (List ℕ)))} → Faults numbers_parts s e → Faults (members numbers_rules 1 non_any_type_tree ⊥) s e
numbers_fault h = fault_members numbers_first non_any_type_tree h

pub ruleset numbers_steps = (direct_choice, numbers_got_0, numbers_got_1, numbers_got_2, numbers_got_3, numbers_fault, own_takes, pair_takes, seen_takes)

-- `strings`
abbrev strings_parts : Reading ((MayBeNull Octet) ⊎ ((MayBeNull ByteString) ⊎ ((MayBeNull DOMString) ⊎ (MayBeNull USVString))))
strings_parts = (choice_reading (may_be_null_reading (mark {V = Octet} OCTET)) (choice_reading (may_be_null_reading (mark {V = ByteString} BYTE_STRING)) (choice_reading (may_be_null_reading (mark {V = DOMString} DOM_STRING)) (may_be_null_reading (mark {V = USVString} USV_STRING)))))

strings_first : IsFirst strings_parts strings_rules 5 (choice_tree (λ v. Alt 5 (may_be_null_tree mark_tree v)) (choice_tree (λ v. Alt 6 (may_be_null_tree mark_tree v)) (choice_tree (λ v. Alt 7 (may_be_null_tree mark_tree v)) (λ v. Alt 8 (may_be_null_tree mark_tree v))))) ⊥
strings_first = (first_more 5 (may_be_null_rule (mark_rule OCTET) MAY_BE_NULL_OCTET refl refl) (first_more 6 (may_be_null_rule (mark_rule BYTE_STRING) MAY_BE_NULL_BYTE_STRING refl refl) (first_more 7 (may_be_null_rule (mark_rule DOM_STRING) MAY_BE_NULL_DOM_STRING refl refl) (first_last 8 (may_be_null_rule (mark_rule USV_STRING) MAY_BE_NULL_USV_STRING refl refl)))))

pub strings_got_0 : {s rest : List ℕ} {v : (MayBeNull Octet)} → Got strings_parts s (inl v) rest → Got (members strings_rules 5 non_any_type_tree ⊥) s (NonAnyType-Octet v) rest
strings_got_0 {v = v} h = got_members strings_first non_any_type_tree (NonAnyType-Octet v) h refl

pub strings_got_1 : {s rest : List ℕ} {v : (MayBeNull ByteString)} → Got strings_parts s (inr (inl v)) rest → Got (members strings_rules 5 non_any_type_tree ⊥) s (NonAnyType-ByteString v) rest
strings_got_1 {v = v} h = got_members strings_first non_any_type_tree (NonAnyType-ByteString v) h refl

pub strings_got_2 : {s rest : List ℕ} {v : (MayBeNull DOMString)} → Got strings_parts s (inr (inr (inl v))) rest → Got (members strings_rules 5 non_any_type_tree ⊥) s (NonAnyType-DOMString v) rest
strings_got_2 {v = v} h = got_members strings_first non_any_type_tree (NonAnyType-DOMString v) h refl

pub strings_got_3 : {s rest : List ℕ} {v : (MayBeNull USVString)} → Got strings_parts s (inr (inr (inr v))) rest → Got (members strings_rules 5 non_any_type_tree ⊥) s (NonAnyType-USVString v) rest
strings_got_3 {v = v} h = got_members strings_first non_any_type_tree (NonAnyType-USVString v) h refl

pub strings_fault : {s : List ℕ} {e : Fault (Error (Bor (List ℕ)))} → Faults strings_parts s e → Faults (members strings_rules 5 non_any_type_tree ⊥) s e
strings_fault h = fault_members strings_first non_any_type_tree h

pub ruleset strings_steps = (direct_choice, strings_got_0, strings_got_1, strings_got_2, strings_got_3, strings_fault, own_takes, pair_takes, seen_takes)

-- `objects`
abbrev objects_parts : Reading ((MayBeNull Object) ⊎ ((MayBeNull Symbol) ⊎ ((MayBeNull ErrorKeyword) ⊎ (MayBeNull ArrayBuffer))))
objects_parts = (choice_reading (may_be_null_reading (mark {V = Object} OBJECT)) (choice_reading (may_be_null_reading (mark {V = Symbol} SYMBOL)) (choice_reading (may_be_null_reading (mark {V = ErrorKeyword} ERROR)) (may_be_null_reading (mark {V = ArrayBuffer} ARRAY_BUFFER)))))

objects_first : IsFirst objects_parts objects_rules 10 (choice_tree (λ v. Alt 10 (may_be_null_tree mark_tree v)) (choice_tree (λ v. Alt 11 (may_be_null_tree mark_tree v)) (choice_tree (λ v. Alt 12 (may_be_null_tree mark_tree v)) (λ v. Alt 13 (may_be_null_tree mark_tree v))))) ⊥
objects_first = (first_more 10 (may_be_null_rule (mark_rule OBJECT) MAY_BE_NULL_OBJECT refl refl) (first_more 11 (may_be_null_rule (mark_rule SYMBOL) MAY_BE_NULL_SYMBOL refl refl) (first_more 12 (may_be_null_rule (mark_rule ERROR) MAY_BE_NULL_ERROR refl refl) (first_last 13 (may_be_null_rule (mark_rule ARRAY_BUFFER) MAY_BE_NULL_ARRAY_BUFFER refl refl)))))

pub objects_got_0 : {s rest : List ℕ} {v : (MayBeNull Object)} → Got objects_parts s (inl v) rest → Got (members objects_rules 10 non_any_type_tree ⊥) s (NonAnyType-Object v) rest
objects_got_0 {v = v} h = got_members objects_first non_any_type_tree (NonAnyType-Object v) h refl

pub objects_got_1 : {s rest : List ℕ} {v : (MayBeNull Symbol)} → Got objects_parts s (inr (inl v)) rest → Got (members objects_rules 10 non_any_type_tree ⊥) s (NonAnyType-Symbol v) rest
objects_got_1 {v = v} h = got_members objects_first non_any_type_tree (NonAnyType-Symbol v) h refl

pub objects_got_2 : {s rest : List ℕ} {v : (MayBeNull ErrorKeyword)} → Got objects_parts s (inr (inr (inl v))) rest → Got (members objects_rules 10 non_any_type_tree ⊥) s (NonAnyType-Error v) rest
objects_got_2 {v = v} h = got_members objects_first non_any_type_tree (NonAnyType-Error v) h refl

pub objects_got_3 : {s rest : List ℕ} {v : (MayBeNull ArrayBuffer)} → Got objects_parts s (inr (inr (inr v))) rest → Got (members objects_rules 10 non_any_type_tree ⊥) s (NonAnyType-ArrayBuffer v) rest
objects_got_3 {v = v} h = got_members objects_first non_any_type_tree (NonAnyType-ArrayBuffer v) h refl

pub objects_fault : {s : List ℕ} {e : Fault (Error (Bor (List ℕ)))} → Faults objects_parts s e → Faults (members objects_rules 10 non_any_type_tree ⊥) s e
objects_fault h = fault_members objects_first non_any_type_tree h

pub ruleset objects_steps = (direct_choice, objects_got_0, objects_got_1, objects_got_2, objects_got_3, objects_fault, own_takes, pair_takes, seen_takes)

-- `signed_arrays`
abbrev signed_arrays_parts : Reading ((MayBeNull DataView) ⊎ ((MayBeNull Int8Array) ⊎ ((MayBeNull Int16Array) ⊎ (MayBeNull Int32Array))))
signed_arrays_parts = (choice_reading (may_be_null_reading (mark {V = DataView} DATA_VIEW)) (choice_reading (may_be_null_reading (mark {V = Int8Array} INT8_ARRAY)) (choice_reading (may_be_null_reading (mark {V = Int16Array} INT16_ARRAY)) (may_be_null_reading (mark {V = Int32Array} INT32_ARRAY)))))

signed_arrays_first : IsFirst signed_arrays_parts signed_arrays_rules 14 (choice_tree (λ v. Alt 14 (may_be_null_tree mark_tree v)) (choice_tree (λ v. Alt 15 (may_be_null_tree mark_tree v)) (choice_tree (λ v. Alt 16 (may_be_null_tree mark_tree v)) (λ v. Alt 17 (may_be_null_tree mark_tree v))))) ⊥
signed_arrays_first = (first_more 14 (may_be_null_rule (mark_rule DATA_VIEW) MAY_BE_NULL_DATA_VIEW refl refl) (first_more 15 (may_be_null_rule (mark_rule INT8_ARRAY) MAY_BE_NULL_INT8_ARRAY refl refl) (first_more 16 (may_be_null_rule (mark_rule INT16_ARRAY) MAY_BE_NULL_INT16_ARRAY refl refl) (first_last 17 (may_be_null_rule (mark_rule INT32_ARRAY) MAY_BE_NULL_INT32_ARRAY refl refl)))))

pub signed_arrays_got_0 : {s rest : List ℕ} {v : (MayBeNull DataView)} → Got signed_arrays_parts s (inl v) rest → Got (members signed_arrays_rules 14 non_any_type_tree ⊥) s (NonAnyType-DataView v) rest
signed_arrays_got_0 {v = v} h = got_members signed_arrays_first non_any_type_tree (NonAnyType-DataView v) h refl

pub signed_arrays_got_1 : {s rest : List ℕ} {v : (MayBeNull Int8Array)} → Got signed_arrays_parts s (inr (inl v)) rest → Got (members signed_arrays_rules 14 non_any_type_tree ⊥) s (NonAnyType-Int8Array v) rest
signed_arrays_got_1 {v = v} h = got_members signed_arrays_first non_any_type_tree (NonAnyType-Int8Array v) h refl

pub signed_arrays_got_2 : {s rest : List ℕ} {v : (MayBeNull Int16Array)} → Got signed_arrays_parts s (inr (inr (inl v))) rest → Got (members signed_arrays_rules 14 non_any_type_tree ⊥) s (NonAnyType-Int16Array v) rest
signed_arrays_got_2 {v = v} h = got_members signed_arrays_first non_any_type_tree (NonAnyType-Int16Array v) h refl

pub signed_arrays_got_3 : {s rest : List ℕ} {v : (MayBeNull Int32Array)} → Got signed_arrays_parts s (inr (inr (inr v))) rest → Got (members signed_arrays_rules 14 non_any_type_tree ⊥) s (NonAnyType-Int32Array v) rest
signed_arrays_got_3 {v = v} h = got_members signed_arrays_first non_any_type_tree (NonAnyType-Int32Array v) h refl

pub signed_arrays_fault : {s : List ℕ} {e : Fault (Error (Bor (List ℕ)))} → Faults signed_arrays_parts s e → Faults (members signed_arrays_rules 14 non_any_type_tree ⊥) s e
signed_arrays_fault h = fault_members signed_arrays_first non_any_type_tree h

pub ruleset signed_arrays_steps = (direct_choice, signed_arrays_got_0, signed_arrays_got_1, signed_arrays_got_2, signed_arrays_got_3, signed_arrays_fault, own_takes, pair_takes, seen_takes)

-- `unsigned_arrays`
abbrev unsigned_arrays_parts : Reading ((MayBeNull Uint8Array) ⊎ ((MayBeNull Uint16Array) ⊎ ((MayBeNull Uint32Array) ⊎ (MayBeNull Uint8ClampedArray))))
unsigned_arrays_parts = (choice_reading (may_be_null_reading (mark {V = Uint8Array} UINT8_ARRAY)) (choice_reading (may_be_null_reading (mark {V = Uint16Array} UINT16_ARRAY)) (choice_reading (may_be_null_reading (mark {V = Uint32Array} UINT32_ARRAY)) (may_be_null_reading (mark {V = Uint8ClampedArray} UINT8_CLAMPED_ARRAY)))))

unsigned_arrays_first : IsFirst unsigned_arrays_parts unsigned_arrays_rules 18 (choice_tree (λ v. Alt 18 (may_be_null_tree mark_tree v)) (choice_tree (λ v. Alt 19 (may_be_null_tree mark_tree v)) (choice_tree (λ v. Alt 20 (may_be_null_tree mark_tree v)) (λ v. Alt 21 (may_be_null_tree mark_tree v))))) ⊥
unsigned_arrays_first = (first_more 18 (may_be_null_rule (mark_rule UINT8_ARRAY) MAY_BE_NULL_UINT8_ARRAY refl refl) (first_more 19 (may_be_null_rule (mark_rule UINT16_ARRAY) MAY_BE_NULL_UINT16_ARRAY refl refl) (first_more 20 (may_be_null_rule (mark_rule UINT32_ARRAY) MAY_BE_NULL_UINT32_ARRAY refl refl) (first_last 21 (may_be_null_rule (mark_rule UINT8_CLAMPED_ARRAY) MAY_BE_NULL_UINT8_CLAMPED_ARRAY refl refl)))))

pub unsigned_arrays_got_0 : {s rest : List ℕ} {v : (MayBeNull Uint8Array)} → Got unsigned_arrays_parts s (inl v) rest → Got (members unsigned_arrays_rules 18 non_any_type_tree ⊥) s (NonAnyType-Uint8Array v) rest
unsigned_arrays_got_0 {v = v} h = got_members unsigned_arrays_first non_any_type_tree (NonAnyType-Uint8Array v) h refl

pub unsigned_arrays_got_1 : {s rest : List ℕ} {v : (MayBeNull Uint16Array)} → Got unsigned_arrays_parts s (inr (inl v)) rest → Got (members unsigned_arrays_rules 18 non_any_type_tree ⊥) s (NonAnyType-Uint16Array v) rest
unsigned_arrays_got_1 {v = v} h = got_members unsigned_arrays_first non_any_type_tree (NonAnyType-Uint16Array v) h refl

pub unsigned_arrays_got_2 : {s rest : List ℕ} {v : (MayBeNull Uint32Array)} → Got unsigned_arrays_parts s (inr (inr (inl v))) rest → Got (members unsigned_arrays_rules 18 non_any_type_tree ⊥) s (NonAnyType-Uint32Array v) rest
unsigned_arrays_got_2 {v = v} h = got_members unsigned_arrays_first non_any_type_tree (NonAnyType-Uint32Array v) h refl

pub unsigned_arrays_got_3 : {s rest : List ℕ} {v : (MayBeNull Uint8ClampedArray)} → Got unsigned_arrays_parts s (inr (inr (inr v))) rest → Got (members unsigned_arrays_rules 18 non_any_type_tree ⊥) s (NonAnyType-Uint8ClampedArray v) rest
unsigned_arrays_got_3 {v = v} h = got_members unsigned_arrays_first non_any_type_tree (NonAnyType-Uint8ClampedArray v) h refl

pub unsigned_arrays_fault : {s : List ℕ} {e : Fault (Error (Bor (List ℕ)))} → Faults unsigned_arrays_parts s e → Faults (members unsigned_arrays_rules 18 non_any_type_tree ⊥) s e
unsigned_arrays_fault h = fault_members unsigned_arrays_first non_any_type_tree h

pub ruleset unsigned_arrays_steps = (direct_choice, unsigned_arrays_got_0, unsigned_arrays_got_1, unsigned_arrays_got_2, unsigned_arrays_got_3, unsigned_arrays_fault, own_takes, pair_takes, seen_takes)

-- `float_arrays`
abbrev float_arrays_parts : Reading ((MayBeNull Float32Array) ⊎ ((MayBeNull Float64Array) ⊎ ((MayBeNull ArrayBufferView) ⊎ (MayBeNull BufferSource))))
float_arrays_parts = (choice_reading (may_be_null_reading (mark {V = Float32Array} FLOAT32_ARRAY)) (choice_reading (may_be_null_reading (mark {V = Float64Array} FLOAT64_ARRAY)) (choice_reading (may_be_null_reading (mark {V = ArrayBufferView} ARRAY_BUFFER_VIEW)) (may_be_null_reading (mark {V = BufferSource} BUFFER_SOURCE)))))

float_arrays_first : IsFirst float_arrays_parts float_arrays_rules 22 (choice_tree (λ v. Alt 22 (may_be_null_tree mark_tree v)) (choice_tree (λ v. Alt 23 (may_be_null_tree mark_tree v)) (choice_tree (λ v. Alt 24 (may_be_null_tree mark_tree v)) (λ v. Alt 25 (may_be_null_tree mark_tree v))))) ⊥
float_arrays_first = (first_more 22 (may_be_null_rule (mark_rule FLOAT32_ARRAY) MAY_BE_NULL_FLOAT32_ARRAY refl refl) (first_more 23 (may_be_null_rule (mark_rule FLOAT64_ARRAY) MAY_BE_NULL_FLOAT64_ARRAY refl refl) (first_more 24 (may_be_null_rule (mark_rule ARRAY_BUFFER_VIEW) MAY_BE_NULL_ARRAY_BUFFER_VIEW refl refl) (first_last 25 (may_be_null_rule (mark_rule BUFFER_SOURCE) MAY_BE_NULL_BUFFER_SOURCE refl refl)))))

pub float_arrays_got_0 : {s rest : List ℕ} {v : (MayBeNull Float32Array)} → Got float_arrays_parts s (inl v) rest → Got (members float_arrays_rules 22 non_any_type_tree ⊥) s (NonAnyType-Float32Array v) rest
float_arrays_got_0 {v = v} h = got_members float_arrays_first non_any_type_tree (NonAnyType-Float32Array v) h refl

pub float_arrays_got_1 : {s rest : List ℕ} {v : (MayBeNull Float64Array)} → Got float_arrays_parts s (inr (inl v)) rest → Got (members float_arrays_rules 22 non_any_type_tree ⊥) s (NonAnyType-Float64Array v) rest
float_arrays_got_1 {v = v} h = got_members float_arrays_first non_any_type_tree (NonAnyType-Float64Array v) h refl

pub float_arrays_got_2 : {s rest : List ℕ} {v : (MayBeNull ArrayBufferView)} → Got float_arrays_parts s (inr (inr (inl v))) rest → Got (members float_arrays_rules 22 non_any_type_tree ⊥) s (NonAnyType-ArrayBufferView v) rest
float_arrays_got_2 {v = v} h = got_members float_arrays_first non_any_type_tree (NonAnyType-ArrayBufferView v) h refl

pub float_arrays_got_3 : {s rest : List ℕ} {v : (MayBeNull BufferSource)} → Got float_arrays_parts s (inr (inr (inr v))) rest → Got (members float_arrays_rules 22 non_any_type_tree ⊥) s (NonAnyType-BufferSource v) rest
float_arrays_got_3 {v = v} h = got_members float_arrays_first non_any_type_tree (NonAnyType-BufferSource v) h refl

pub float_arrays_fault : {s : List ℕ} {e : Fault (Error (Bor (List ℕ)))} → Faults float_arrays_parts s e → Faults (members float_arrays_rules 22 non_any_type_tree ⊥) s e
float_arrays_fault h = fault_members float_arrays_first non_any_type_tree h

pub ruleset float_arrays_steps = (direct_choice, float_arrays_got_0, float_arrays_got_1, float_arrays_got_2, float_arrays_got_3, float_arrays_fault, own_takes, pair_takes, seen_takes)

-- `before_sequence`
abbrev before_sequence_parts : Reading (NonAnyType ⊎ NonAnyType)
before_sequence_parts = (choice_reading (members numbers_rules 1 non_any_type_tree ⊥) (members strings_rules 5 non_any_type_tree ⊥))

before_sequence_first : IsFirst before_sequence_parts before_sequence_rules 1 (choice_tree non_any_type_tree non_any_type_tree) ⊥
before_sequence_first = (first_piece 5 (members_first numbers_rules 1 non_any_type_tree ⊥) (members_first strings_rules 5 non_any_type_tree ⊥) refl)

pub before_sequence_got_0 : {s rest : List ℕ} {v : NonAnyType} → Got before_sequence_parts s (inl v) rest → Got (members before_sequence_rules 1 non_any_type_tree ⊥) s v rest
before_sequence_got_0 {v = v} h = got_members before_sequence_first non_any_type_tree v h refl

pub before_sequence_got_1 : {s rest : List ℕ} {v : NonAnyType} → Got before_sequence_parts s (inr v) rest → Got (members before_sequence_rules 1 non_any_type_tree ⊥) s v rest
before_sequence_got_1 {v = v} h = got_members before_sequence_first non_any_type_tree v h refl

pub before_sequence_fault : {s : List ℕ} {e : Fault (Error (Bor (List ℕ)))} → Faults before_sequence_parts s e → Faults (members before_sequence_rules 1 non_any_type_tree ⊥) s e
before_sequence_fault h = fault_members before_sequence_first non_any_type_tree h

pub ruleset before_sequence_steps = (direct_choice, before_sequence_got_0, before_sequence_got_1, before_sequence_fault)

-- `after_sequence`
abbrev after_sequence_parts : Reading (NonAnyType ⊎ (NonAnyType ⊎ (NonAnyType ⊎ NonAnyType)))
after_sequence_parts = (choice_reading (members objects_rules 10 non_any_type_tree ⊥) (choice_reading (members signed_arrays_rules 14 non_any_type_tree ⊥) (choice_reading (members unsigned_arrays_rules 18 non_any_type_tree ⊥) (members float_arrays_rules 22 non_any_type_tree ⊥))))

after_sequence_first : IsFirst after_sequence_parts after_sequence_rules 10 (choice_tree non_any_type_tree (choice_tree non_any_type_tree (choice_tree non_any_type_tree non_any_type_tree))) ⊥
after_sequence_first = (first_piece 14 (members_first objects_rules 10 non_any_type_tree ⊥) (first_piece 18 (members_first signed_arrays_rules 14 non_any_type_tree ⊥) (first_piece 22 (members_first unsigned_arrays_rules 18 non_any_type_tree ⊥) (members_first float_arrays_rules 22 non_any_type_tree ⊥) refl) refl) refl)

pub after_sequence_got_0 : {s rest : List ℕ} {v : NonAnyType} → Got after_sequence_parts s (inl v) rest → Got (members after_sequence_rules 10 non_any_type_tree ⊥) s v rest
after_sequence_got_0 {v = v} h = got_members after_sequence_first non_any_type_tree v h refl

pub after_sequence_got_1 : {s rest : List ℕ} {v : NonAnyType} → Got after_sequence_parts s (inr (inl v)) rest → Got (members after_sequence_rules 10 non_any_type_tree ⊥) s v rest
after_sequence_got_1 {v = v} h = got_members after_sequence_first non_any_type_tree v h refl

pub after_sequence_got_2 : {s rest : List ℕ} {v : NonAnyType} → Got after_sequence_parts s (inr (inr (inl v))) rest → Got (members after_sequence_rules 10 non_any_type_tree ⊥) s v rest
after_sequence_got_2 {v = v} h = got_members after_sequence_first non_any_type_tree v h refl

pub after_sequence_got_3 : {s rest : List ℕ} {v : NonAnyType} → Got after_sequence_parts s (inr (inr (inr v))) rest → Got (members after_sequence_rules 10 non_any_type_tree ⊥) s v rest
after_sequence_got_3 {v = v} h = got_members after_sequence_first non_any_type_tree v h refl

pub after_sequence_fault : {s : List ℕ} {e : Fault (Error (Bor (List ℕ)))} → Faults after_sequence_parts s e → Faults (members after_sequence_rules 10 non_any_type_tree ⊥) s e
after_sequence_fault h = fault_members after_sequence_first non_any_type_tree h

pub ruleset after_sequence_steps = (direct_choice, after_sequence_got_0, after_sequence_got_1, after_sequence_got_2, after_sequence_got_3, after_sequence_fault)

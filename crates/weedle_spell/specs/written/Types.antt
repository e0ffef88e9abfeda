-- How the types are rendered that are made of types, arguments and extended attributes.
-- Written by tools/spellings.py, and not edited by hand.
use Rattle.std.specs.Global.{Box}
use Rattle.std.specs.Prelude.{codes}
use Rattle.weedle_base.specs.declared.term.written.type_keywords.Or.{Or}
use Rattle.weedle_parts.specs.declared.common.brackets.Parenthesized.{Parenthesized}
use Rattle.weedle_parts.specs.declared.common.punctuated.Punctuated.{Punctuated}
use Rattle.weedle_spell.specs.Forms.{Form, ◌then◌}
use Rattle.weedle_spell.specs.GenericParts.{generics_spelling, parenthesized_spelling, punctuated_spelling}
use Rattle.weedle_spell.specs.Leaves.{terminal}
use Rattle.weedle_spell.specs.RecursiveTypes.{non_any_type_spelling, type_spelling, union_member_type_spelling}
use Rattle.weedle_spell.specs.Tokens.{word}
use Rattle.weedle_spell.specs.written.Arguments.{attributes_spelling}
use Rattle.weedle_types.specs.declared.formers.FrozenArrayType.{FrozenArrayType}
use Rattle.weedle_types.specs.declared.formers.PromiseType.{PromiseType}
use Rattle.weedle_types.specs.declared.formers.RecordKeyType.TheVariants.{Byte as RecordKeyType-Byte, DOM as RecordKeyType-DOM, USV as RecordKeyType-USV, NonAny as RecordKeyType-NonAny}
use Rattle.weedle_types.specs.declared.formers.RecordKeyType.{RecordKeyType}
use Rattle.weedle_types.specs.declared.formers.RecordType.{RecordType}
use Rattle.weedle_types.specs.declared.formers.ReturnType.TheVariants.{Undefined as ReturnType-Undefined, Type_ as ReturnType-Type_}
use Rattle.weedle_types.specs.declared.formers.ReturnType.{ReturnType}
use Rattle.weedle_types.specs.declared.formers.SequenceType.{SequenceType}
use Rattle.weedle_types.specs.declared.formers.SingleType.TheVariants.{Any as SingleType-Any, NonAny as SingleType-NonAny}
use Rattle.weedle_types.specs.declared.formers.SingleType.{SingleType}
use Rattle.weedle_types.specs.declared.types.AttributedNonAnyType.{AttributedNonAnyType}
use Rattle.weedle_types.specs.declared.types.AttributedType.{AttributedType}
use Rattle.weedle_types.specs.declared.types.NonAnyType.{NonAnyType}
use Rattle.weedle_types.specs.declared.types.RecordTypes.{RecordTypes}
use Rattle.weedle_types.specs.declared.types.UnionMemberType.{UnionMemberType}
use Rattle.weedle_types.specs.declared.types.«Type».{«Type»}

-- a type that is no union
abbrev pub single_type_spelling : SingleType NonAnyType → Form
single_type_spelling (SingleType-Any v) = terminal (codes "any") v
single_type_spelling (SingleType-NonAny v) = non_any_type_spelling v

-- the type of a result
abbrev pub return_type_spelling : ReturnType «Type» → Form
return_type_spelling (ReturnType-Undefined v) = terminal (codes "undefined") v
return_type_spelling (ReturnType-Type_ v) = type_spelling v

-- the type of a record's keys
abbrev pub record_key_type_spelling : RecordKeyType NonAnyType → Form
record_key_type_spelling (RecordKeyType-Byte v) = terminal (codes "ByteString") v
record_key_type_spelling (RecordKeyType-DOM v) = terminal (codes "DOMString") v
record_key_type_spelling (RecordKeyType-USV v) = terminal (codes "USVString") v
record_key_type_spelling (RecordKeyType-NonAny v) = non_any_type_spelling v

-- the types of a record
abbrev pub record_types_spelling : RecordTypes → Form
record_types_spelling v =
    record_key_type_spelling v.0.value then terminal (codes ",") v.1 then type_spelling v.2.value

-- a type in a box: the type
abbrev pub boxed_type_spelling : Box «Type» → Form
boxed_type_spelling b = type_spelling b.value

-- the type of a result in a box: that type
abbrev pub boxed_return_type_spelling : Box (ReturnType «Type») → Form
boxed_return_type_spelling b = return_type_spelling b.value

-- a sequence
abbrev pub sequence_type_spelling : SequenceType «Type» → Form
sequence_type_spelling v =
    terminal (codes "sequence") v.sequence then generics_spelling boxed_type_spelling v.generics

-- an array that can't change
abbrev pub frozen_array_type_spelling : FrozenArrayType «Type» → Form
frozen_array_type_spelling v =
    terminal (codes "FrozenArray") v.frozen_array then generics_spelling boxed_type_spelling v.generics

-- a promise
abbrev pub promise_type_spelling : PromiseType (ReturnType «Type») → Form
promise_type_spelling v =
    terminal (codes "Promise") v.promise then generics_spelling boxed_return_type_spelling v.generics

-- a record
abbrev pub record_type_spelling : RecordType RecordTypes → Form
record_type_spelling v =
    terminal (codes "record") v.record_ then generics_spelling record_types_spelling v.generics

-- a union
abbrev pub union_type_spelling : Parenthesized (Punctuated UnionMemberType Or) → Form
union_type_spelling =
    parenthesized_spelling (punctuated_spelling union_member_type_spelling (word (codes "or")))

-- a type with the extended attributes before it
abbrev pub attributed_type_spelling : AttributedType → Form
attributed_type_spelling v = attributes_spelling v.attributes then type_spelling v.type_

-- a type that is neither `any` nor a union, with the extended attributes before it
abbrev pub attributed_non_any_type_spelling : AttributedNonAnyType → Form
attributed_non_any_type_spelling v = attributes_spelling v.attributes then non_any_type_spelling v.type_

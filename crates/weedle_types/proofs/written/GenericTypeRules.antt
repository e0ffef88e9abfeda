-- Types over types in angle brackets, and what follows from the answers of their parts.
use Rattle.std.proofs.Common.{refl}
use Rattle.std.specs.Borrow.{Bor}
use Rattle.std.specs.Global.{Box}
use Rattle.std.specs.Prelude.{List, Option, ℕ, ◌≡◌}
use Rattle.weedle_base.proofs.RuleFacts.{fault_rule, got_rule, mark, mark_rule, option_rule, own_rule, seq_last, seq_next, seq_rule, still_rule}
use Rattle.weedle_base.proofs.Steps.{part_steps}
use Rattle.weedle_base.proofs.TakesFacts.{own_takes}
use Rattle.weedle_base.specs.Generic.{option_reading, pair_reading}
use Rattle.weedle_base.specs.Own.{own}
use Rattle.weedle_base.specs.Reading.{Faults, Got, Reading}
use Rattle.weedle_base.specs.declared.fault.Err.{Err as Fault}
use Rattle.weedle_base.specs.declared.fault.Error.{Error}
use Rattle.weedle_base.specs.declared.term.written.capitalized_keywords.FrozenArray.{FrozenArray}
use Rattle.weedle_base.specs.declared.term.written.capitalized_keywords.Promise.{Promise}
use Rattle.weedle_base.specs.declared.term.written.symbols.Comma.{Comma}
use Rattle.weedle_base.specs.declared.term.written.symbols.GreaterThan.{GreaterThan}
use Rattle.weedle_base.specs.declared.term.written.symbols.LessThan.{LessThan}
use Rattle.weedle_base.specs.declared.term.written.symbols.QMark.{QMark}
use Rattle.weedle_base.specs.declared.term.written.type_keywords.Record.{Record}
use Rattle.weedle_base.specs.declared.term.written.type_keywords.Sequence.{Sequence}
use Rattle.weedle_grammar.specs.written.Table.CapitalizedKeywords.{FROZEN_ARRAY, PROMISE}
use Rattle.weedle_grammar.specs.written.Table.Keywords.{RECORD, SEQUENCE}
use Rattle.weedle_grammar.specs.written.Table.SimpleTypes.{OPT_Q_MARK}
use Rattle.weedle_grammar.specs.written.Table.Symbols.{COMMA, GREATER_THAN, LESS_THAN, Q_MARK}
use Rattle.weedle_grammar.specs.written.Table.Types.{FROZEN_ARRAY_TYPE, GENERICS_RECORD_TYPES, GENERICS_RETURN_TYPE, GENERICS_TYPE, MAY_BE_NULL_FROZEN_ARRAY_TYPE, MAY_BE_NULL_RECORD_TYPE, MAY_BE_NULL_SEQUENCE_TYPE, PROMISE_TYPE, RECORD_KEY_TYPE, RECORD_TYPE, RECORD_TYPES, RETURN_TYPE, SEQUENCE_TYPE, TYPE}
use Rattle.weedle_parts.specs.ValueTrees.{generics_tree, may_be_null_tree}
use Rattle.weedle_parts.specs.declared.common.brackets.Generics.{Generics}
use Rattle.weedle_parts.specs.declared.types.may_be_null.MayBeNull.{MayBeNull}
use Rattle.weedle_types.proofs.Direct.{memory_fault}
use Rattle.weedle_types.specs.Steps.{OutOfMemory}
use Rattle.weedle_types.specs.Trees.{boxed_return_type_tree, boxed_type_tree, frozen_array_type_tree, promise_type_tree, record_key_type_tree, record_type_tree, record_types_tree, return_type_tree, sequence_type_tree, type_tree}
use Rattle.weedle_types.specs.declared.formers.FrozenArrayType.{FrozenArrayType}
use Rattle.weedle_types.specs.declared.formers.PromiseType.{PromiseType}
use Rattle.weedle_types.specs.declared.formers.RecordKeyType.{RecordKeyType}
use Rattle.weedle_types.specs.declared.formers.RecordType.{RecordType}
use Rattle.weedle_types.specs.declared.formers.ReturnType.{ReturnType}
use Rattle.weedle_types.specs.declared.formers.SequenceType.{SequenceType}
use Rattle.weedle_types.specs.declared.types.NonAnyType.{NonAnyType}
use Rattle.weedle_types.specs.declared.types.RecordTypes.{RecordTypes}
use Rattle.weedle_types.specs.declared.types.«Type».{«Type»}

-- `sequence_type`
abbrev sequence_type_parts : Reading (Sequence × (Generics (Box «Type»)))
sequence_type_parts = (pair_reading (mark SEQUENCE) (own GENERICS_TYPE (generics_tree boxed_type_tree) (Unit {0})))

pub sequence_type_got : {s rest : List ℕ} (x : SequenceType «Type») → Got sequence_type_parts s (x.sequence, x.generics) rest → Got (own SEQUENCE_TYPE sequence_type_tree (Unit {0})) s x rest
sequence_type_got x h = got_rule (seq_rule (seq_next (still_rule (mark_rule SEQUENCE)) (seq_last (own_rule GENERICS_TYPE (generics_tree boxed_type_tree) (Unit {0})))) SEQUENCE_TYPE refl refl) sequence_type_tree x h refl

pub sequence_type_fault : {s : List ℕ} {e : Fault (Error (Bor (List ℕ)))} → Faults sequence_type_parts s e → Faults (own SEQUENCE_TYPE sequence_type_tree (Unit {0})) s e
sequence_type_fault h = fault_rule (seq_rule (seq_next (still_rule (mark_rule SEQUENCE)) (seq_last (own_rule GENERICS_TYPE (generics_tree boxed_type_tree) (Unit {0})))) SEQUENCE_TYPE refl refl) sequence_type_tree h

pub ruleset sequence_type_steps = (part_steps, sequence_type_got, sequence_type_fault, own_takes)

-- `frozen_array_type`
abbrev frozen_array_type_parts : Reading (FrozenArray × (Generics (Box «Type»)))
frozen_array_type_parts = (pair_reading (mark FROZEN_ARRAY) (own GENERICS_TYPE (generics_tree boxed_type_tree) (Unit {0})))

pub frozen_array_type_got : {s rest : List ℕ} (x : FrozenArrayType «Type») → Got frozen_array_type_parts s (x.frozen_array, x.generics) rest → Got (own FROZEN_ARRAY_TYPE frozen_array_type_tree (Unit {0})) s x rest
frozen_array_type_got x h = got_rule (seq_rule (seq_next (still_rule (mark_rule FROZEN_ARRAY)) (seq_last (own_rule GENERICS_TYPE (generics_tree boxed_type_tree) (Unit {0})))) FROZEN_ARRAY_TYPE refl refl) frozen_array_type_tree x h refl

pub frozen_array_type_fault : {s : List ℕ} {e : Fault (Error (Bor (List ℕ)))} → Faults frozen_array_type_parts s e → Faults (own FROZEN_ARRAY_TYPE frozen_array_type_tree (Unit {0})) s e
frozen_array_type_fault h = fault_rule (seq_rule (seq_next (still_rule (mark_rule FROZEN_ARRAY)) (seq_last (own_rule GENERICS_TYPE (generics_tree boxed_type_tree) (Unit {0})))) FROZEN_ARRAY_TYPE refl refl) frozen_array_type_tree h

pub ruleset frozen_array_type_steps = (part_steps, frozen_array_type_got, frozen_array_type_fault, own_takes)

-- `promise_type`
abbrev promise_type_parts : Reading (Promise × (Generics (Box (ReturnType «Type»))))
promise_type_parts = (pair_reading (mark PROMISE) (own GENERICS_RETURN_TYPE (generics_tree boxed_return_type_tree) (Unit {0})))

pub promise_type_got : {s rest : List ℕ} (x : PromiseType (ReturnType «Type»)) → Got promise_type_parts s (x.promise, x.generics) rest → Got (own PROMISE_TYPE promise_type_tree (Unit {0})) s x rest
promise_type_got x h = got_rule (seq_rule (seq_next (still_rule (mark_rule PROMISE)) (seq_last (own_rule GENERICS_RETURN_TYPE (generics_tree boxed_return_type_tree) (Unit {0})))) PROMISE_TYPE refl refl) promise_type_tree x h refl

pub promise_type_fault : {s : List ℕ} {e : Fault (Error (Bor (List ℕ)))} → Faults promise_type_parts s e → Faults (own PROMISE_TYPE promise_type_tree (Unit {0})) s e
promise_type_fault h = fault_rule (seq_rule (seq_next (still_rule (mark_rule PROMISE)) (seq_last (own_rule GENERICS_RETURN_TYPE (generics_tree boxed_return_type_tree) (Unit {0})))) PROMISE_TYPE refl refl) promise_type_tree h

pub ruleset promise_type_steps = (part_steps, promise_type_got, promise_type_fault, own_takes)

-- `record_type`
abbrev record_type_parts : Reading (Record × (Generics RecordTypes))
record_type_parts = (pair_reading (mark RECORD) (own GENERICS_RECORD_TYPES (generics_tree record_types_tree) (Unit {0})))

pub record_type_got : {s rest : List ℕ} (x : RecordType RecordTypes) → Got record_type_parts s (x.record_, x.generics) rest → Got (own RECORD_TYPE record_type_tree (Unit {0})) s x rest
record_type_got x h = got_rule (seq_rule (seq_next (still_rule (mark_rule RECORD)) (seq_last (own_rule GENERICS_RECORD_TYPES (generics_tree record_types_tree) (Unit {0})))) RECORD_TYPE refl refl) record_type_tree x h refl

pub record_type_fault : {s : List ℕ} {e : Fault (Error (Bor (List ℕ)))} → Faults record_type_parts s e → Faults (own RECORD_TYPE record_type_tree (Unit {0})) s e
record_type_fault h = fault_rule (seq_rule (seq_next (still_rule (mark_rule RECORD)) (seq_last (own_rule GENERICS_RECORD_TYPES (generics_tree record_types_tree) (Unit {0})))) RECORD_TYPE refl refl) record_type_tree h

pub ruleset record_type_steps = (part_steps, record_type_got, record_type_fault, own_takes)

-- `nullable_sequence_type`
abbrev nullable_sequence_type_parts : Reading ((SequenceType «Type») × (Option QMark))
nullable_sequence_type_parts = (pair_reading (own SEQUENCE_TYPE sequence_type_tree (Unit {0})) (option_reading (mark Q_MARK)))

pub nullable_sequence_type_got : {s rest : List ℕ} (x : MayBeNull (SequenceType «Type»)) → Got nullable_sequence_type_parts s (x.type_, x.q_mark) rest → Got (own MAY_BE_NULL_SEQUENCE_TYPE (may_be_null_tree sequence_type_tree) (Unit {0})) s x rest
nullable_sequence_type_got x h = got_rule (seq_rule (seq_next (own_rule SEQUENCE_TYPE sequence_type_tree (Unit {0})) (seq_last (still_rule (option_rule (mark_rule Q_MARK) OPT_Q_MARK refl refl)))) MAY_BE_NULL_SEQUENCE_TYPE refl refl) (may_be_null_tree sequence_type_tree) x h refl

pub nullable_sequence_type_fault : {s : List ℕ} {e : Fault (Error (Bor (List ℕ)))} → Faults nullable_sequence_type_parts s e → Faults (own MAY_BE_NULL_SEQUENCE_TYPE (may_be_null_tree sequence_type_tree) (Unit {0})) s e
nullable_sequence_type_fault h = fault_rule (seq_rule (seq_next (own_rule SEQUENCE_TYPE sequence_type_tree (Unit {0})) (seq_last (still_rule (option_rule (mark_rule Q_MARK) OPT_Q_MARK refl refl)))) MAY_BE_NULL_SEQUENCE_TYPE refl refl) (may_be_null_tree sequence_type_tree) h

pub ruleset nullable_sequence_type_steps = (part_steps, nullable_sequence_type_got, nullable_sequence_type_fault, own_takes)

-- `nullable_frozen_array_type`
abbrev nullable_frozen_array_type_parts : Reading ((FrozenArrayType «Type») × (Option QMark))
nullable_frozen_array_type_parts = (pair_reading (own FROZEN_ARRAY_TYPE frozen_array_type_tree (Unit {0})) (option_reading (mark Q_MARK)))

pub nullable_frozen_array_type_got : {s rest : List ℕ} (x : MayBeNull (FrozenArrayType «Type»)) → Got nullable_frozen_array_type_parts s (x.type_, x.q_mark) rest → Got (own MAY_BE_NULL_FROZEN_ARRAY_TYPE (may_be_null_tree frozen_array_type_tree) (Unit {0})) s x rest
nullable_frozen_array_type_got x h = got_rule (seq_rule (seq_next (own_rule FROZEN_ARRAY_TYPE frozen_array_type_tree (Unit {0})) (seq_last (still_rule (option_rule (mark_rule Q_MARK) OPT_Q_MARK refl refl)))) MAY_BE_NULL_FROZEN_ARRAY_TYPE refl refl) (may_be_null_tree frozen_array_type_tree) x h refl

pub nullable_frozen_array_type_fault : {s : List ℕ} {e : Fault (Error (Bor (List ℕ)))} → Faults nullable_frozen_array_type_parts s e → Faults (own MAY_BE_NULL_FROZEN_ARRAY_TYPE (may_be_null_tree frozen_array_type_tree) (Unit {0})) s e
nullable_frozen_array_type_fault h = fault_rule (seq_rule (seq_next (own_rule FROZEN_ARRAY_TYPE frozen_array_type_tree (Unit {0})) (seq_last (still_rule (option_rule (mark_rule Q_MARK) OPT_Q_MARK refl refl)))) MAY_BE_NULL_FROZEN_ARRAY_TYPE refl refl) (may_be_null_tree frozen_array_type_tree) h

pub ruleset nullable_frozen_array_type_steps = (part_steps, nullable_frozen_array_type_got, nullable_frozen_array_type_fault, own_takes)

-- `nullable_record_type`
abbrev nullable_record_type_parts : Reading ((RecordType RecordTypes) × (Option QMark))
nullable_record_type_parts = (pair_reading (own RECORD_TYPE record_type_tree (Unit {0})) (option_reading (mark Q_MARK)))

pub nullable_record_type_got : {s rest : List ℕ} (x : MayBeNull (RecordType RecordTypes)) → Got nullable_record_type_parts s (x.type_, x.q_mark) rest → Got (own MAY_BE_NULL_RECORD_TYPE (may_be_null_tree record_type_tree) (Unit {0})) s x rest
nullable_record_type_got x h = got_rule (seq_rule (seq_next (own_rule RECORD_TYPE record_type_tree (Unit {0})) (seq_last (still_rule (option_rule (mark_rule Q_MARK) OPT_Q_MARK refl refl)))) MAY_BE_NULL_RECORD_TYPE refl refl) (may_be_null_tree record_type_tree) x h refl

pub nullable_record_type_fault : {s : List ℕ} {e : Fault (Error (Bor (List ℕ)))} → Faults nullable_record_type_parts s e → Faults (own MAY_BE_NULL_RECORD_TYPE (may_be_null_tree record_type_tree) (Unit {0})) s e
nullable_record_type_fault h = fault_rule (seq_rule (seq_next (own_rule RECORD_TYPE record_type_tree (Unit {0})) (seq_last (still_rule (option_rule (mark_rule Q_MARK) OPT_Q_MARK refl refl)))) MAY_BE_NULL_RECORD_TYPE refl refl) (may_be_null_tree record_type_tree) h

pub ruleset nullable_record_type_steps = (part_steps, nullable_record_type_got, nullable_record_type_fault, own_takes)

-- `generics_type`
abbrev generics_type_parts : Reading (LessThan × («Type» × GreaterThan))
generics_type_parts = (pair_reading (mark LESS_THAN) (pair_reading (own TYPE type_tree (Unit {0})) (mark GREATER_THAN)))

pub generics_type_got : {s rest : List ℕ} {vbody : «Type»} (x : Generics (Box «Type»)) → Got generics_type_parts s (x.open_angle, (vbody, x.close_angle)) rest → x.body.value ≡ vbody → Got (own GENERICS_TYPE (generics_tree boxed_type_tree) (Unit {0})) s x rest
generics_type_got x h ebody = got_rule (seq_rule (seq_next (still_rule (mark_rule LESS_THAN)) (seq_next (own_rule TYPE type_tree (Unit {0})) (seq_last (still_rule (mark_rule GREATER_THAN))))) GENERICS_TYPE refl refl) (generics_tree boxed_type_tree) x h (rw ebody refl)

pub generics_type_fault : {s : List ℕ} {e : Fault (Error (Bor (List ℕ)))} → Faults generics_type_parts s e → Faults (own GENERICS_TYPE (generics_tree boxed_type_tree) (Unit {0})) s e
generics_type_fault h = fault_rule (seq_rule (seq_next (still_rule (mark_rule LESS_THAN)) (seq_next (own_rule TYPE type_tree (Unit {0})) (seq_last (still_rule (mark_rule GREATER_THAN))))) GENERICS_TYPE refl refl) (generics_tree boxed_type_tree) h

pub generics_type_memory : {s : List ℕ} {e : Fault (Error (Bor (List ℕ)))} → OutOfMemory s e → Faults (own GENERICS_TYPE (generics_tree boxed_type_tree) (Unit {0})) s e
generics_type_memory {s = s} h = memory_fault s GENERICS_TYPE (generics_tree boxed_type_tree) h

pub ruleset generics_type_steps = (part_steps, generics_type_got, generics_type_fault, own_takes, generics_type_memory)

-- `generics_return_type`
abbrev generics_return_type_parts : Reading (LessThan × ((ReturnType «Type») × GreaterThan))
generics_return_type_parts = (pair_reading (mark LESS_THAN) (pair_reading (own RETURN_TYPE return_type_tree (Unit {0})) (mark GREATER_THAN)))

pub generics_return_type_got : {s rest : List ℕ} {vbody : (ReturnType «Type»)} (x : Generics (Box (ReturnType «Type»))) → Got generics_return_type_parts s (x.open_angle, (vbody, x.close_angle)) rest → x.body.value ≡ vbody → Got (own GENERICS_RETURN_TYPE (generics_tree boxed_return_type_tree) (Unit {0})) s x rest
generics_return_type_got x h ebody = got_rule (seq_rule (seq_next (still_rule (mark_rule LESS_THAN)) (seq_next (own_rule RETURN_TYPE return_type_tree (Unit {0})) (seq_last (still_rule (mark_rule GREATER_THAN))))) GENERICS_RETURN_TYPE refl refl) (generics_tree boxed_return_type_tree) x h (rw ebody refl)

pub generics_return_type_fault : {s : List ℕ} {e : Fault (Error (Bor (List ℕ)))} → Faults generics_return_type_parts s e → Faults (own GENERICS_RETURN_TYPE (generics_tree boxed_return_type_tree) (Unit {0})) s e
generics_return_type_fault h = fault_rule (seq_rule (seq_next (still_rule (mark_rule LESS_THAN)) (seq_next (own_rule RETURN_TYPE return_type_tree (Unit {0})) (seq_last (still_rule (mark_rule GREATER_THAN))))) GENERICS_RETURN_TYPE refl refl) (generics_tree boxed_return_type_tree) h

pub generics_return_type_memory : {s : List ℕ} {e : Fault (Error (Bor (List ℕ)))} → OutOfMemory s e → Faults (own GENERICS_RETURN_TYPE (generics_tree boxed_return_type_tree) (Unit {0})) s e
generics_return_type_memory {s = s} h = memory_fault s GENERICS_RETURN_TYPE (generics_tree boxed_return_type_tree) h

pub ruleset generics_return_type_steps = (part_steps, generics_return_type_got, generics_return_type_fault, own_takes, generics_return_type_memory)

-- `generics_record_types`
abbrev generics_record_types_parts : Reading (LessThan × (RecordTypes × GreaterThan))
generics_record_types_parts = (pair_reading (mark LESS_THAN) (pair_reading (own RECORD_TYPES record_types_tree (Unit {0})) (mark GREATER_THAN)))

pub generics_record_types_got : {s rest : List ℕ} (x : Generics RecordTypes) → Got generics_record_types_parts s (x.open_angle, (x.body, x.close_angle)) rest → Got (own GENERICS_RECORD_TYPES (generics_tree record_types_tree) (Unit {0})) s x rest
generics_record_types_got x h = got_rule (seq_rule (seq_next (still_rule (mark_rule LESS_THAN)) (seq_next (own_rule RECORD_TYPES record_types_tree (Unit {0})) (seq_last (still_rule (mark_rule GREATER_THAN))))) GENERICS_RECORD_TYPES refl refl) (generics_tree record_types_tree) x h refl

pub generics_record_types_fault : {s : List ℕ} {e : Fault (Error (Bor (List ℕ)))} → Faults generics_record_types_parts s e → Faults (own GENERICS_RECORD_TYPES (generics_tree record_types_tree) (Unit {0})) s e
generics_record_types_fault h = fault_rule (seq_rule (seq_next (still_rule (mark_rule LESS_THAN)) (seq_next (own_rule RECORD_TYPES record_types_tree (Unit {0})) (seq_last (still_rule (mark_rule GREATER_THAN))))) GENERICS_RECORD_TYPES refl refl) (generics_tree record_types_tree) h

pub ruleset generics_record_types_steps = (part_steps, generics_record_types_got, generics_record_types_fault, own_takes)

-- `record_types`
abbrev record_types_parts : Reading ((RecordKeyType NonAnyType) × (Comma × «Type»))
record_types_parts = (pair_reading (own RECORD_KEY_TYPE record_key_type_tree (Unit {0})) (pair_reading (mark COMMA) (own TYPE type_tree (Unit {0}))))

pub record_types_got : {s rest : List ℕ} {v0 : (RecordKeyType NonAnyType)} {v2 : «Type»} (x : RecordTypes) → Got record_types_parts s (v0, (x.1, v2)) rest → x.0.value ≡ v0 → x.2.value ≡ v2 → Got (own RECORD_TYPES record_types_tree (Unit {0})) s x rest
record_types_got x h e0 e2 = got_rule (seq_rule (seq_next (own_rule RECORD_KEY_TYPE record_key_type_tree (Unit {0})) (seq_next (still_rule (mark_rule COMMA)) (seq_last (own_rule TYPE type_tree (Unit {0}))))) RECORD_TYPES refl refl) record_types_tree x h (rw (e0, e2) refl)

pub record_types_fault : {s : List ℕ} {e : Fault (Error (Bor (List ℕ)))} → Faults record_types_parts s e → Faults (own RECORD_TYPES record_types_tree (Unit {0})) s e
record_types_fault h = fault_rule (seq_rule (seq_next (own_rule RECORD_KEY_TYPE record_key_type_tree (Unit {0})) (seq_next (still_rule (mark_rule COMMA)) (seq_last (own_rule TYPE type_tree (Unit {0}))))) RECORD_TYPES refl refl) record_types_tree h

pub record_types_memory : {s : List ℕ} {e : Fault (Error (Bor (List ℕ)))} → OutOfMemory s e → Faults (own RECORD_TYPES record_types_tree (Unit {0})) s e
record_types_memory {s = s} h = memory_fault s RECORD_TYPES record_types_tree h

pub ruleset record_types_steps = (part_steps, record_types_got, record_types_fault, own_takes, record_types_memory)

-- Types, and what follows from the answers of their parts.
use Rattle.std.proofs.Common.{inl, inr, refl, sym}
use Rattle.std.specs.Borrow.{Bor}
use Rattle.std.specs.Prelude.{List, Option, ℕ, ◌⊎◌}
use Rattle.weedle_base.proofs.ChoiceFacts.{choice_tree, first_last, first_more, first_rule}
use Rattle.weedle_base.proofs.RuleFacts.{fault_rule, got_rule, mark, mark_rule, own_rule, seq_last, seq_next, seq_rule, still_rule}
use Rattle.weedle_base.proofs.Steps.{part_steps}
use Rattle.weedle_base.proofs.TakesFacts.{own_takes}
use Rattle.weedle_base.specs.Generic.{choice_reading, pair_reading}
use Rattle.weedle_base.specs.Own.{own}
use Rattle.weedle_base.specs.Reading.{Faults, Got, Reading}
use Rattle.weedle_base.specs.Rules.{IsRule, mark_tree, option_tree}
use Rattle.weedle_base.specs.declared.fault.Err.{Err as Fault}
use Rattle.weedle_base.specs.declared.fault.Error.{Error}
use Rattle.weedle_base.specs.declared.term.written.capitalized_keywords.ByteString.{ByteString}
use Rattle.weedle_base.specs.declared.term.written.capitalized_keywords.DOMString.{DOMString}
use Rattle.weedle_base.specs.declared.term.written.capitalized_keywords.USVString.{USVString}
use Rattle.weedle_base.specs.declared.term.written.symbols.Comma.{Comma}
use Rattle.weedle_base.specs.declared.term.written.type_keywords.Any.{Any}
use Rattle.weedle_base.specs.declared.term.written.type_keywords.Or.{Or}
use Rattle.weedle_base.specs.declared.term.written.type_keywords.Undefined.{Undefined}
use Rattle.weedle_grammar.specs.Trees.{Alt}
use Rattle.weedle_grammar.specs.written.Table.CapitalizedKeywords.{BYTE_STRING, DOM_STRING, USV_STRING}
use Rattle.weedle_grammar.specs.written.Table.Keywords.{ANY, UNDEFINED}
use Rattle.weedle_grammar.specs.written.Table.Leaves.{IDENTIFIER}
use Rattle.weedle_grammar.specs.written.Table.SimpleTypes.{MAY_BE_NULL_IDENTIFIER}
use Rattle.weedle_grammar.specs.written.Table.Types.{ATTRIBUTED_NON_ANY_TYPE, ATTRIBUTED_TYPE, MAY_BE_NULL_FROZEN_ARRAY_TYPE, MAY_BE_NULL_RECORD_TYPE, MAY_BE_NULL_SEQUENCE_TYPE, MAY_BE_NULL_UNION_TYPE, NON_ANY_TYPE, OPT_EXTENDED_ATTRIBUTE_LIST, PROMISE_TYPE, RECORD_KEY_TYPE, RETURN_TYPE, SINGLE_TYPE, TYPE}
use Rattle.weedle_parts.proofs.PartRules.{may_be_null_rule}
use Rattle.weedle_parts.specs.MayBeNull.{may_be_null_reading}
use Rattle.weedle_parts.specs.ValueTrees.{identifier_tree, may_be_null_tree}
use Rattle.weedle_parts.specs.declared.common.brackets.Bracketed.{Bracketed}
use Rattle.weedle_parts.specs.declared.common.brackets.Parenthesized.{Parenthesized}
use Rattle.weedle_parts.specs.declared.common.identifier.Identifier.{Identifier}
use Rattle.weedle_parts.specs.declared.common.punctuated.Punctuated.{Punctuated}
use Rattle.weedle_parts.specs.declared.types.may_be_null.MayBeNull.{MayBeNull}
use Rattle.weedle_types.proofs.Direct.{direct_choice, first_piece, members_first, pair_takes, seen_takes, still_first}
use Rattle.weedle_types.proofs.TreeLaws.{promise_of, record_of, single_type_of, union_of}
use Rattle.weedle_types.specs.Pieces.{after_sequence_rules, before_sequence_rules}
use Rattle.weedle_types.specs.Steps.{members}
use Rattle.weedle_types.specs.Trees.{attributed_non_any_type_tree, attributed_type_tree, extended_attribute_list_tree, frozen_array_type_tree, non_any_type_tree, promise_type_tree, record_key_type_tree, record_type_tree, return_type_tree, sequence_type_tree, single_type_tree, type_tree, union_type_tree}
use Rattle.weedle_types.specs.declared.attribute.ExtendedAttribute.{ExtendedAttribute}
use Rattle.weedle_types.specs.declared.formers.FrozenArrayType.{FrozenArrayType}
use Rattle.weedle_types.specs.declared.formers.PromiseType.{PromiseType}
use Rattle.weedle_types.specs.declared.formers.RecordKeyType.TheVariants.{Byte as RecordKeyType-Byte, DOM as RecordKeyType-DOM, NonAny as RecordKeyType-NonAny, USV as RecordKeyType-USV}
use Rattle.weedle_types.specs.declared.formers.RecordType.{RecordType}
use Rattle.weedle_types.specs.declared.formers.ReturnType.TheVariants.{Type_ as ReturnType-Type_, Undefined as ReturnType-Undefined}
use Rattle.weedle_types.specs.declared.formers.ReturnType.{ReturnType}
use Rattle.weedle_types.specs.declared.formers.SequenceType.{SequenceType}
use Rattle.weedle_types.specs.declared.formers.SingleType.TheVariants.{Any as SingleType-Any, NonAny as SingleType-NonAny}
use Rattle.weedle_types.specs.declared.formers.SingleType.{SingleType}
use Rattle.weedle_types.specs.declared.types.AttributedNonAnyType.{AttributedNonAnyType}
use Rattle.weedle_types.specs.declared.types.AttributedType.{AttributedType}
use Rattle.weedle_types.specs.declared.types.NonAnyType.TheVariants.{FrozenArrayType as NonAnyType-FrozenArrayType, Identifier as NonAnyType-Identifier, Promise as NonAnyType-Promise, RecordType as NonAnyType-RecordType, Sequence as NonAnyType-Sequence}
use Rattle.weedle_types.specs.declared.types.NonAnyType.{NonAnyType}
use Rattle.weedle_types.specs.declared.types.RecordTypes.{RecordTypes}
use Rattle.weedle_types.specs.declared.types.UnionMemberType.{UnionMemberType}
use Rattle.weedle_types.specs.declared.types.«Type».TheVariants.{Single as Type-Single, Union as Type-Union}
use Rattle.weedle_types.specs.declared.types.«Type».{«Type»}

-- `type_`
abbrev type__parts : Reading ((SingleType NonAnyType) ⊎ (MayBeNull (Parenthesized (Punctuated UnionMemberType Or))))
type__parts = (choice_reading (own SINGLE_TYPE single_type_tree (Unit {0})) (own MAY_BE_NULL_UNION_TYPE (may_be_null_tree union_type_tree) (Unit {0})))

type__rule : IsRule type__parts TYPE (choice_tree (λ v. Alt 0 (single_type_tree v)) (λ v. Alt 1 ((may_be_null_tree union_type_tree) v))) (Unit {0})
type__rule = first_rule (first_more 0 (own_rule SINGLE_TYPE single_type_tree (Unit {0})) (first_last 1 (own_rule MAY_BE_NULL_UNION_TYPE (may_be_null_tree union_type_tree) (Unit {0})))) TYPE refl refl

pub type__got_0 : {s rest : List ℕ} {v : (SingleType NonAnyType)} → Got type__parts s (inl v) rest → Got (own TYPE type_tree (Unit {0})) s (Type-Single v) rest
type__got_0 {v = v} h = got_rule type__rule type_tree (Type-Single v) h (sym (single_type_of v))

pub type__got_1 : {s rest : List ℕ} {v : (MayBeNull (Parenthesized (Punctuated UnionMemberType Or)))} → Got type__parts s (inr v) rest → Got (own TYPE type_tree (Unit {0})) s (Type-Union v) rest
type__got_1 {v = v} h = got_rule type__rule type_tree (Type-Union v) h (sym (union_of v))

pub type__fault : {s : List ℕ} {e : Fault (Error (Bor (List ℕ)))} → Faults type__parts s e → Faults (own TYPE type_tree (Unit {0})) s e
type__fault h = fault_rule type__rule type_tree h

pub ruleset type__steps = (direct_choice, type__got_0, type__got_1, type__fault, own_takes, pair_takes, seen_takes)

-- `single_type`
abbrev single_type_parts : Reading (Any ⊎ NonAnyType)
single_type_parts = (choice_reading (mark ANY) (own NON_ANY_TYPE non_any_type_tree (Unit {0})))

single_type_rule : IsRule single_type_parts SINGLE_TYPE (choice_tree (λ v. Alt 0 (mark_tree v)) (λ v. Alt 1 (non_any_type_tree v))) (Unit {0})
single_type_rule = first_rule (first_more 0 (still_rule (mark_rule ANY)) (first_last 1 (own_rule NON_ANY_TYPE non_any_type_tree (Unit {0})))) SINGLE_TYPE refl refl

pub single_type_got_0 : {s rest : List ℕ} {v : Any} → Got single_type_parts s (inl v) rest → Got (own SINGLE_TYPE single_type_tree (Unit {0})) s (SingleType-Any v) rest
single_type_got_0 {v = v} h = got_rule single_type_rule single_type_tree (SingleType-Any v) h refl

pub single_type_got_1 : {s rest : List ℕ} {v : NonAnyType} → Got single_type_parts s (inr v) rest → Got (own SINGLE_TYPE single_type_tree (Unit {0})) s (SingleType-NonAny v) rest
single_type_got_1 {v = v} h = got_rule single_type_rule single_type_tree (SingleType-NonAny v) h refl

pub single_type_fault : {s : List ℕ} {e : Fault (Error (Bor (List ℕ)))} → Faults single_type_parts s e → Faults (own SINGLE_TYPE single_type_tree (Unit {0})) s e
single_type_fault h = fault_rule single_type_rule single_type_tree h

pub ruleset single_type_steps = (direct_choice, single_type_got_0, single_type_got_1, single_type_fault, own_takes, pair_takes, seen_takes)

-- `non_any_type`
abbrev non_any_type_parts : Reading ((PromiseType (ReturnType «Type»)) ⊎ (NonAnyType ⊎ ((MayBeNull (SequenceType «Type»)) ⊎ (NonAnyType ⊎ ((MayBeNull (FrozenArrayType «Type»)) ⊎ ((MayBeNull (RecordType RecordTypes)) ⊎ (MayBeNull Identifier)))))))
non_any_type_parts = (choice_reading (own PROMISE_TYPE promise_type_tree (Unit {0})) (choice_reading (members before_sequence_rules 1 non_any_type_tree ⊥) (choice_reading (own MAY_BE_NULL_SEQUENCE_TYPE (may_be_null_tree sequence_type_tree) (Unit {0})) (choice_reading (members after_sequence_rules 10 non_any_type_tree ⊥) (choice_reading (own MAY_BE_NULL_FROZEN_ARRAY_TYPE (may_be_null_tree frozen_array_type_tree) (Unit {0})) (choice_reading (own MAY_BE_NULL_RECORD_TYPE (may_be_null_tree record_type_tree) (Unit {0})) (may_be_null_reading (own IDENTIFIER identifier_tree ⊥))))))))

non_any_type_rule : IsRule non_any_type_parts NON_ANY_TYPE (choice_tree (λ v. Alt 0 (promise_type_tree v)) (choice_tree non_any_type_tree (choice_tree (λ v. Alt 9 ((may_be_null_tree sequence_type_tree) v)) (choice_tree non_any_type_tree (choice_tree (λ v. Alt 26 ((may_be_null_tree frozen_array_type_tree) v)) (choice_tree (λ v. Alt 27 ((may_be_null_tree record_type_tree) v)) (λ v. Alt 28 ((may_be_null_tree identifier_tree) v)))))))) (Unit {0})
non_any_type_rule = first_rule (first_more 0 (own_rule PROMISE_TYPE promise_type_tree (Unit {0})) (first_piece 9 (still_first (members_first before_sequence_rules 1 non_any_type_tree ⊥)) (first_more 9 (own_rule MAY_BE_NULL_SEQUENCE_TYPE (may_be_null_tree sequence_type_tree) (Unit {0})) (first_piece 26 (still_first (members_first after_sequence_rules 10 non_any_type_tree ⊥)) (first_more 26 (own_rule MAY_BE_NULL_FROZEN_ARRAY_TYPE (may_be_null_tree frozen_array_type_tree) (Unit {0})) (first_more 27 (own_rule MAY_BE_NULL_RECORD_TYPE (may_be_null_tree record_type_tree) (Unit {0})) (first_last 28 (still_rule (may_be_null_rule (own_rule IDENTIFIER identifier_tree ⊥) MAY_BE_NULL_IDENTIFIER refl refl))))) refl)) refl)) NON_ANY_TYPE refl refl

pub non_any_type_got_0 : {s rest : List ℕ} {v : (PromiseType (ReturnType «Type»))} → Got non_any_type_parts s (inl v) rest → Got (own NON_ANY_TYPE non_any_type_tree (Unit {0})) s (NonAnyType-Promise v) rest
non_any_type_got_0 {v = v} h = got_rule non_any_type_rule non_any_type_tree (NonAnyType-Promise v) h (sym (promise_of v))

pub non_any_type_got_1 : {s rest : List ℕ} {v : NonAnyType} → Got non_any_type_parts s (inr (inl v)) rest → Got (own NON_ANY_TYPE non_any_type_tree (Unit {0})) s v rest
non_any_type_got_1 {v = v} h = got_rule non_any_type_rule non_any_type_tree v h refl

pub non_any_type_got_2 : {s rest : List ℕ} {v : (MayBeNull (SequenceType «Type»))} → Got non_any_type_parts s (inr (inr (inl v))) rest → Got (own NON_ANY_TYPE non_any_type_tree (Unit {0})) s (NonAnyType-Sequence v) rest
non_any_type_got_2 {v = v} h = got_rule non_any_type_rule non_any_type_tree (NonAnyType-Sequence v) h refl

pub non_any_type_got_3 : {s rest : List ℕ} {v : NonAnyType} → Got non_any_type_parts s (inr (inr (inr (inl v)))) rest → Got (own NON_ANY_TYPE non_any_type_tree (Unit {0})) s v rest
non_any_type_got_3 {v = v} h = got_rule non_any_type_rule non_any_type_tree v h refl

pub non_any_type_got_4 : {s rest : List ℕ} {v : (MayBeNull (FrozenArrayType «Type»))} → Got non_any_type_parts s (inr (inr (inr (inr (inl v))))) rest → Got (own NON_ANY_TYPE non_any_type_tree (Unit {0})) s (NonAnyType-FrozenArrayType v) rest
non_any_type_got_4 {v = v} h = got_rule non_any_type_rule non_any_type_tree (NonAnyType-FrozenArrayType v) h refl

pub non_any_type_got_5 : {s rest : List ℕ} {v : (MayBeNull (RecordType RecordTypes))} → Got non_any_type_parts s (inr (inr (inr (inr (inr (inl v)))))) rest → Got (own NON_ANY_TYPE non_any_type_tree (Unit {0})) s (NonAnyType-RecordType v) rest
non_any_type_got_5 {v = v} h = got_rule non_any_type_rule non_any_type_tree (NonAnyType-RecordType v) h (sym (record_of v))

pub non_any_type_got_6 : {s rest : List ℕ} {v : (MayBeNull Identifier)} → Got non_any_type_parts s (inr (inr (inr (inr (inr (inr v)))))) rest → Got (own NON_ANY_TYPE non_any_type_tree (Unit {0})) s (NonAnyType-Identifier v) rest
non_any_type_got_6 {v = v} h = got_rule non_any_type_rule non_any_type_tree (NonAnyType-Identifier v) h refl

pub non_any_type_fault : {s : List ℕ} {e : Fault (Error (Bor (List ℕ)))} → Faults non_any_type_parts s e → Faults (own NON_ANY_TYPE non_any_type_tree (Unit {0})) s e
non_any_type_fault h = fault_rule non_any_type_rule non_any_type_tree h

pub ruleset non_any_type_steps = (direct_choice, non_any_type_got_0, non_any_type_got_1, non_any_type_got_2, non_any_type_got_3, non_any_type_got_4, non_any_type_got_5, non_any_type_got_6, non_any_type_fault, own_takes, pair_takes, seen_takes)

-- `record_key_type`
abbrev record_key_type_parts : Reading (ByteString ⊎ (DOMString ⊎ (USVString ⊎ NonAnyType)))
record_key_type_parts = (choice_reading (mark BYTE_STRING) (choice_reading (mark DOM_STRING) (choice_reading (mark USV_STRING) (own NON_ANY_TYPE non_any_type_tree (Unit {0})))))

record_key_type_rule : IsRule record_key_type_parts RECORD_KEY_TYPE (choice_tree (λ v. Alt 0 (mark_tree v)) (choice_tree (λ v. Alt 1 (mark_tree v)) (choice_tree (λ v. Alt 2 (mark_tree v)) (λ v. Alt 3 (non_any_type_tree v))))) (Unit {0})
record_key_type_rule = first_rule (first_more 0 (still_rule (mark_rule BYTE_STRING)) (first_more 1 (still_rule (mark_rule DOM_STRING)) (first_more 2 (still_rule (mark_rule USV_STRING)) (first_last 3 (own_rule NON_ANY_TYPE non_any_type_tree (Unit {0})))))) RECORD_KEY_TYPE refl refl

pub record_key_type_got_0 : {s rest : List ℕ} {v : ByteString} → Got record_key_type_parts s (inl v) rest → Got (own RECORD_KEY_TYPE record_key_type_tree (Unit {0})) s (RecordKeyType-Byte v) rest
record_key_type_got_0 {v = v} h = got_rule record_key_type_rule record_key_type_tree (RecordKeyType-Byte v) h refl

pub record_key_type_got_1 : {s rest : List ℕ} {v : DOMString} → Got record_key_type_parts s (inr (inl v)) rest → Got (own RECORD_KEY_TYPE record_key_type_tree (Unit {0})) s (RecordKeyType-DOM v) rest
record_key_type_got_1 {v = v} h = got_rule record_key_type_rule record_key_type_tree (RecordKeyType-DOM v) h refl

pub record_key_type_got_2 : {s rest : List ℕ} {v : USVString} → Got record_key_type_parts s (inr (inr (inl v))) rest → Got (own RECORD_KEY_TYPE record_key_type_tree (Unit {0})) s (RecordKeyType-USV v) rest
record_key_type_got_2 {v = v} h = got_rule record_key_type_rule record_key_type_tree (RecordKeyType-USV v) h refl

pub record_key_type_got_3 : {s rest : List ℕ} {v : NonAnyType} → Got record_key_type_parts s (inr (inr (inr v))) rest → Got (own RECORD_KEY_TYPE record_key_type_tree (Unit {0})) s (RecordKeyType-NonAny v) rest
record_key_type_got_3 {v = v} h = got_rule record_key_type_rule record_key_type_tree (RecordKeyType-NonAny v) h refl

pub record_key_type_fault : {s : List ℕ} {e : Fault (Error (Bor (List ℕ)))} → Faults record_key_type_parts s e → Faults (own RECORD_KEY_TYPE record_key_type_tree (Unit {0})) s e
record_key_type_fault h = fault_rule record_key_type_rule record_key_type_tree h

pub ruleset record_key_type_steps = (direct_choice, record_key_type_got_0, record_key_type_got_1, record_key_type_got_2, record_key_type_got_3, record_key_type_fault, own_takes, pair_takes, seen_takes)

-- `return_type`
abbrev return_type_parts : Reading (Undefined ⊎ «Type»)
return_type_parts = (choice_reading (mark UNDEFINED) (own TYPE type_tree (Unit {0})))

return_type_rule : IsRule return_type_parts RETURN_TYPE (choice_tree (λ v. Alt 0 (mark_tree v)) (λ v. Alt 1 (type_tree v))) (Unit {0})
return_type_rule = first_rule (first_more 0 (still_rule (mark_rule UNDEFINED)) (first_last 1 (own_rule TYPE type_tree (Unit {0})))) RETURN_TYPE refl refl

pub return_type_got_0 : {s rest : List ℕ} {v : Undefined} → Got return_type_parts s (inl v) rest → Got (own RETURN_TYPE return_type_tree (Unit {0})) s (ReturnType-Undefined v) rest
return_type_got_0 {v = v} h = got_rule return_type_rule return_type_tree (ReturnType-Undefined v) h refl

pub return_type_got_1 : {s rest : List ℕ} {v : «Type»} → Got return_type_parts s (inr v) rest → Got (own RETURN_TYPE return_type_tree (Unit {0})) s (ReturnType-Type_ v) rest
return_type_got_1 {v = v} h = got_rule return_type_rule return_type_tree (ReturnType-Type_ v) h refl

pub return_type_fault : {s : List ℕ} {e : Fault (Error (Bor (List ℕ)))} → Faults return_type_parts s e → Faults (own RETURN_TYPE return_type_tree (Unit {0})) s e
return_type_fault h = fault_rule return_type_rule return_type_tree h

pub ruleset return_type_steps = (direct_choice, return_type_got_0, return_type_got_1, return_type_fault, own_takes, pair_takes, seen_takes)

-- `attributed_type`
abbrev attributed_type_parts : Reading ((Option (Bracketed (Punctuated ExtendedAttribute Comma))) × «Type»)
attributed_type_parts = (pair_reading (own OPT_EXTENDED_ATTRIBUTE_LIST (option_tree extended_attribute_list_tree) (Unit {0})) (own TYPE type_tree (Unit {0})))

pub attributed_type_got : {s rest : List ℕ} (x : AttributedType) → Got attributed_type_parts s (x.attributes, x.type_) rest → Got (own ATTRIBUTED_TYPE attributed_type_tree (Unit {0})) s x rest
attributed_type_got x h = got_rule (seq_rule (seq_next (own_rule OPT_EXTENDED_ATTRIBUTE_LIST (option_tree extended_attribute_list_tree) (Unit {0})) (seq_last (own_rule TYPE type_tree (Unit {0})))) ATTRIBUTED_TYPE refl refl) attributed_type_tree x h refl

pub attributed_type_fault : {s : List ℕ} {e : Fault (Error (Bor (List ℕ)))} → Faults attributed_type_parts s e → Faults (own ATTRIBUTED_TYPE attributed_type_tree (Unit {0})) s e
attributed_type_fault h = fault_rule (seq_rule (seq_next (own_rule OPT_EXTENDED_ATTRIBUTE_LIST (option_tree extended_attribute_list_tree) (Unit {0})) (seq_last (own_rule TYPE type_tree (Unit {0})))) ATTRIBUTED_TYPE refl refl) attributed_type_tree h

pub ruleset attributed_type_steps = (part_steps, attributed_type_got, attributed_type_fault, own_takes)

-- `attributed_non_any_type`
abbrev attributed_non_any_type_parts : Reading ((Option (Bracketed (Punctuated ExtendedAttribute Comma))) × NonAnyType)
attributed_non_any_type_parts = (pair_reading (own OPT_EXTENDED_ATTRIBUTE_LIST (option_tree extended_attribute_list_tree) (Unit {0})) (own NON_ANY_TYPE non_any_type_tree (Unit {0})))

pub attributed_non_any_type_got : {s rest : List ℕ} (x : AttributedNonAnyType) → Got attributed_non_any_type_parts s (x.attributes, x.type_) rest → Got (own ATTRIBUTED_NON_ANY_TYPE attributed_non_any_type_tree (Unit {0})) s x rest
attributed_non_any_type_got x h = got_rule (seq_rule (seq_next (own_rule OPT_EXTENDED_ATTRIBUTE_LIST (option_tree extended_attribute_list_tree) (Unit {0})) (seq_last (own_rule NON_ANY_TYPE non_any_type_tree (Unit {0})))) ATTRIBUTED_NON_ANY_TYPE refl refl) attributed_non_any_type_tree x h refl

pub attributed_non_any_type_fault : {s : List ℕ} {e : Fault (Error (Bor (List ℕ)))} → Faults attributed_non_any_type_parts s e → Faults (own ATTRIBUTED_NON_ANY_TYPE attributed_non_any_type_tree (Unit {0})) s e
attributed_non_any_type_fault h = fault_rule (seq_rule (seq_next (own_rule OPT_EXTENDED_ATTRIBUTE_LIST (option_tree extended_attribute_list_tree) (Unit {0})) (seq_last (own_rule NON_ANY_TYPE non_any_type_tree (Unit {0})))) ATTRIBUTED_NON_ANY_TYPE refl refl) attributed_non_any_type_tree h

pub ruleset attributed_non_any_type_steps = (part_steps, attributed_non_any_type_got, attributed_non_any_type_fault, own_takes)

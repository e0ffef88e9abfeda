-- Alternatives, each where those before it were a mismatch; lists, and arguments with a default.
use Rattle.std.proofs.Common.{Global, Vec, ap, arith, inl, refl, rules, ◌∙◌}
use Rattle.std.specs.Prelude.{List, [], ◌++◌, ◌+◌, ◌∷◌, ◌≡◌}
use Rattle.weedle_base.proofs.Direct.{stop_first, stop_next, take_first, take_next}
use Rattle.weedle_base.proofs.Reached.{reached_none}
use Rattle.weedle_base.proofs.RuleFacts.{mark}
use Rattle.weedle_base.proofs.Steps.{exit_answers, got_pair}
use Rattle.weedle_base.specs.Own.{own}
use Rattle.weedle_base.specs.declared.term.written.symbols.Comma.{Comma}
use Rattle.weedle_base.specs.declared.term.written.type_keywords.Or.{Or}
use Rattle.weedle_grammar.specs.written.Table.Keywords.{OR}
use Rattle.weedle_grammar.specs.written.Table.Symbols.{COMMA}
use Rattle.weedle_grammar.specs.written.Table.Types.{ARGUMENT, EXTENDED_ATTRIBUTE, UNION_MEMBER_TYPE}
use Rattle.weedle_parts.proofs.ReachedLists.{ends_behind, item_fault, list_ends, list_full, reached_next, separator_fault}
use Rattle.weedle_parts.specs.Lists.{next_step}
use Rattle.weedle_types.proofs.Direct.{direct_stop, refused_by}
use Rattle.weedle_types.proofs.reading.+group.Goals as goal
use Rattle.weedle_types.proofs.written.ArgumentRules.{argument_fault, argument_got_0, argument_got_1, argument_list_fault, argument_list_none, argument_list_some, single_argument_fault_when, single_argument_when}
use Rattle.weedle_types.proofs.written.AttributeRules.{attributes_fault, attributes_none, attributes_some, extended_attribute_fault, extended_attribute_got_0, extended_attribute_got_1, extended_attribute_got_2, extended_attribute_got_3, extended_attribute_got_4, extended_attributes_fault, extended_attributes_none, extended_attributes_some}
use Rattle.weedle_types.proofs.written.TypeRules.{non_any_type_fault, non_any_type_got_0, non_any_type_got_1, non_any_type_got_2, non_any_type_got_3, non_any_type_got_4, non_any_type_got_5, non_any_type_got_6, record_key_type_fault, record_key_type_got_0, record_key_type_got_1, record_key_type_got_2, record_key_type_got_3, return_type_fault, return_type_got_0, return_type_got_1, single_type_fault, single_type_got_0, single_type_got_1, type__fault, type__got_0, type__got_1}
use Rattle.weedle_types.proofs.written.UnionRules.{union_member_type_fault, union_member_type_got_0, union_member_type_got_1, union_member_types_fault, union_member_types_none, union_member_types_some}
use Rattle.weedle_types.specs.Trees.{argument_tree, extended_attribute_tree, union_member_type_tree}
use Rattle.weedle_types.specs.declared.argument.Argument.{Argument}
use Rattle.weedle_types.specs.declared.attribute.ExtendedAttribute.{ExtendedAttribute}
use Rattle.weedle_types.specs.declared.types.UnionMemberType.{UnionMemberType}

pub types::type_-returns-in-Ok-clause-reads : goal.types::type_-returns-in-Ok-clause-reads
types::type_-returns-in-Ok-clause-reads t c = type__got_0 (take_first _ _ c.in-Ok.ensures.reads)

pub types::type_-returns-in-Err-Failure-clause-reads : goal.types::type_-returns-in-Err-Failure-clause-reads
types::type_-returns-in-Err-Failure-clause-reads t c = type__fault (stop_first _ _ c.in-Err-Failure.ensures.reads c.in-Err-Failure.field-0-is)

pub types::type_-returns-clause-reads : goal.types::type_-returns-clause-reads
types::type_-returns-clause-reads t c = type__got_1 (take_next _ _ c.in-Err-Error.ensures.reads c.in-Err-Error.field-0-is c.in_ok-rest.ensures.reads)

pub types::type_-returns-in_err-rest-clause-reads : goal.types::type_-returns-in_err-rest-clause-reads
types::type_-returns-in_err-rest-clause-reads t c = exit_answers c.from_residual.result (type__fault (stop_next _ _ c.in-Err-Error.ensures.reads c.in-Err-Error.field-0-is c.in_err-rest.ensures.reads)) c.from_residual.ensures.1

pub types::single_type-returns-in-Ok-clause-reads : goal.types::single_type-returns-in-Ok-clause-reads
types::single_type-returns-in-Ok-clause-reads t c = single_type_got_0 (take_first _ _ c.in-Ok.ensures.reads)

pub types::single_type-returns-in-Err-Failure-clause-reads : goal.types::single_type-returns-in-Err-Failure-clause-reads
types::single_type-returns-in-Err-Failure-clause-reads t c = single_type_fault (stop_first _ _ c.in-Err-Failure.ensures.reads c.in-Err-Failure.field-0-is)

pub types::single_type-returns-clause-reads : goal.types::single_type-returns-clause-reads
types::single_type-returns-clause-reads t c = single_type_got_1 (take_next _ _ c.in-Err-Error.ensures.reads c.in-Err-Error.field-0-is c.in_ok-rest.ensures.reads)

pub types::single_type-returns-in_err-rest-clause-reads : goal.types::single_type-returns-in_err-rest-clause-reads
types::single_type-returns-in_err-rest-clause-reads t c = exit_answers c.from_residual.result (single_type_fault (stop_next _ _ c.in-Err-Error.ensures.reads c.in-Err-Error.field-0-is c.in_err-rest.ensures.reads)) c.from_residual.ensures.1

pub types::non_any_type-returns-in-Ok-clause-reads : goal.types::non_any_type-returns-in-Ok-clause-reads
types::non_any_type-returns-in-Ok-clause-reads t c = non_any_type_got_0 (take_first _ _ c.in-Ok.ensures.reads)

pub types::non_any_type-returns-in-Err-Failure-clause-reads : goal.types::non_any_type-returns-in-Err-Failure-clause-reads
types::non_any_type-returns-in-Err-Failure-clause-reads t c = non_any_type_fault (stop_first _ _ c.in-Err-Failure.ensures.reads c.in-Err-Failure.field-0-is)

pub types::non_any_type-returns-in-Ok-before_sequence-clause-reads : goal.types::non_any_type-returns-in-Ok-before_sequence-clause-reads
types::non_any_type-returns-in-Ok-before_sequence-clause-reads t c = non_any_type_got_1 (take_next _ _ c.in-Err-Error.ensures.reads c.in-Err-Error.field-0-is (take_first _ _ c.in-Ok-before_sequence.ensures.reads))

pub types::non_any_type-returns-in-Err-Failure-before_sequence-clause-reads : goal.types::non_any_type-returns-in-Err-Failure-before_sequence-clause-reads
types::non_any_type-returns-in-Err-Failure-before_sequence-clause-reads t c = non_any_type_fault (stop_next _ _ c.in-Err-Error.ensures.reads c.in-Err-Error.field-0-is (stop_first _ _ c.in-Err-Failure-before_sequence.ensures.reads c.in-Err-Failure-before_sequence.field-0-is))

pub types::non_any_type-returns-in-Ok-nullable_sequence_type-clause-reads : goal.types::non_any_type-returns-in-Ok-nullable_sequence_type-clause-reads
types::non_any_type-returns-in-Ok-nullable_sequence_type-clause-reads t c = non_any_type_got_2 (take_next _ _ c.in-Err-Error.ensures.reads c.in-Err-Error.field-0-is (take_next _ _ c.in-Err-Error-before_sequence.ensures.reads c.in-Err-Error-before_sequence.field-0-is (take_first _ _ c.in-Ok-nullable_sequence_type.ensures.reads)))

pub types::non_any_type-returns-in-Err-Failure-nullable_sequence_type-clause-reads : goal.types::non_any_type-returns-in-Err-Failure-nullable_sequence_type-clause-reads
types::non_any_type-returns-in-Err-Failure-nullable_sequence_type-clause-reads t c = non_any_type_fault (stop_next _ _ c.in-Err-Error.ensures.reads c.in-Err-Error.field-0-is (stop_next _ _ c.in-Err-Error-before_sequence.ensures.reads c.in-Err-Error-before_sequence.field-0-is (stop_first _ _ c.in-Err-Failure-nullable_sequence_type.ensures.reads c.in-Err-Failure-nullable_sequence_type.field-0-is)))

pub types::non_any_type-returns-in-Ok-after_sequence-clause-reads : goal.types::non_any_type-returns-in-Ok-after_sequence-clause-reads
types::non_any_type-returns-in-Ok-after_sequence-clause-reads t c = non_any_type_got_3 (take_next _ _ c.in-Err-Error.ensures.reads c.in-Err-Error.field-0-is (take_next _ _ c.in-Err-Error-before_sequence.ensures.reads c.in-Err-Error-before_sequence.field-0-is (take_next _ _ c.in-Err-Error-nullable_sequence_type.ensures.reads c.in-Err-Error-nullable_sequence_type.field-0-is (take_first _ _ c.in-Ok-after_sequence.ensures.reads))))

pub types::non_any_type-returns-in-Err-Failure-after_sequence-clause-reads : goal.types::non_any_type-returns-in-Err-Failure-after_sequence-clause-reads
types::non_any_type-returns-in-Err-Failure-after_sequence-clause-reads t c = non_any_type_fault (stop_next _ _ c.in-Err-Error.ensures.reads c.in-Err-Error.field-0-is (stop_next _ _ c.in-Err-Error-before_sequence.ensures.reads c.in-Err-Error-before_sequence.field-0-is (stop_next _ _ c.in-Err-Error-nullable_sequence_type.ensures.reads c.in-Err-Error-nullable_sequence_type.field-0-is (stop_first _ _ c.in-Err-Failure-after_sequence.ensures.reads c.in-Err-Failure-after_sequence.field-0-is))))

pub types::non_any_type-returns-in-Ok-nullable_frozen_array_type-clause-reads : goal.types::non_any_type-returns-in-Ok-nullable_frozen_array_type-clause-reads
types::non_any_type-returns-in-Ok-nullable_frozen_array_type-clause-reads t c = non_any_type_got_4 (take_next _ _ c.in-Err-Error.ensures.reads c.in-Err-Error.field-0-is (take_next _ _ c.in-Err-Error-before_sequence.ensures.reads c.in-Err-Error-before_sequence.field-0-is (take_next _ _ c.in-Err-Error-nullable_sequence_type.ensures.reads c.in-Err-Error-nullable_sequence_type.field-0-is (take_next _ _ c.in-Err-Error-after_sequence.ensures.reads c.in-Err-Error-after_sequence.field-0-is (take_first _ _ c.in-Ok-nullable_frozen_array_type.ensures.reads)))))

pub types::non_any_type-returns-in-Err-Failure-nullable_frozen_array_type-clause-reads : goal.types::non_any_type-returns-in-Err-Failure-nullable_frozen_array_type-clause-reads
types::non_any_type-returns-in-Err-Failure-nullable_frozen_array_type-clause-reads t c = non_any_type_fault (stop_next _ _ c.in-Err-Error.ensures.reads c.in-Err-Error.field-0-is (stop_next _ _ c.in-Err-Error-before_sequence.ensures.reads c.in-Err-Error-before_sequence.field-0-is (stop_next _ _ c.in-Err-Error-nullable_sequence_type.ensures.reads c.in-Err-Error-nullable_sequence_type.field-0-is (stop_next _ _ c.in-Err-Error-after_sequence.ensures.reads c.in-Err-Error-after_sequence.field-0-is (stop_first _ _ c.in-Err-Failure-nullable_frozen_array_type.ensures.reads c.in-Err-Failure-nullable_frozen_array_type.field-0-is)))))

pub types::non_any_type-returns-in-Ok-nullable_record_type-clause-reads : goal.types::non_any_type-returns-in-Ok-nullable_record_type-clause-reads
types::non_any_type-returns-in-Ok-nullable_record_type-clause-reads t c = non_any_type_got_5 (take_next _ _ c.in-Err-Error.ensures.reads c.in-Err-Error.field-0-is (take_next _ _ c.in-Err-Error-before_sequence.ensures.reads c.in-Err-Error-before_sequence.field-0-is (take_next _ _ c.in-Err-Error-nullable_sequence_type.ensures.reads c.in-Err-Error-nullable_sequence_type.field-0-is (take_next _ _ c.in-Err-Error-after_sequence.ensures.reads c.in-Err-Error-after_sequence.field-0-is (take_next _ _ c.in-Err-Error-nullable_frozen_array_type.ensures.reads c.in-Err-Error-nullable_frozen_array_type.field-0-is (take_first _ _ c.in-Ok-nullable_record_type.ensures.reads))))))

pub types::non_any_type-returns-in-Err-Failure-nullable_record_type-clause-reads : goal.types::non_any_type-returns-in-Err-Failure-nullable_record_type-clause-reads
types::non_any_type-returns-in-Err-Failure-nullable_record_type-clause-reads t c = non_any_type_fault (stop_next _ _ c.in-Err-Error.ensures.reads c.in-Err-Error.field-0-is (stop_next _ _ c.in-Err-Error-before_sequence.ensures.reads c.in-Err-Error-before_sequence.field-0-is (stop_next _ _ c.in-Err-Error-nullable_sequence_type.ensures.reads c.in-Err-Error-nullable_sequence_type.field-0-is (stop_next _ _ c.in-Err-Error-after_sequence.ensures.reads c.in-Err-Error-after_sequence.field-0-is (stop_next _ _ c.in-Err-Error-nullable_frozen_array_type.ensures.reads c.in-Err-Error-nullable_frozen_array_type.field-0-is (stop_first _ _ c.in-Err-Failure-nullable_record_type.ensures.reads c.in-Err-Failure-nullable_record_type.field-0-is))))))

pub types::non_any_type-returns-clause-reads : goal.types::non_any_type-returns-clause-reads
types::non_any_type-returns-clause-reads t c = non_any_type_got_6 (take_next _ _ c.in-Err-Error.ensures.reads c.in-Err-Error.field-0-is (take_next _ _ c.in-Err-Error-before_sequence.ensures.reads c.in-Err-Error-before_sequence.field-0-is (take_next _ _ c.in-Err-Error-nullable_sequence_type.ensures.reads c.in-Err-Error-nullable_sequence_type.field-0-is (take_next _ _ c.in-Err-Error-after_sequence.ensures.reads c.in-Err-Error-after_sequence.field-0-is (take_next _ _ c.in-Err-Error-nullable_frozen_array_type.ensures.reads c.in-Err-Error-nullable_frozen_array_type.field-0-is (take_next _ _ c.in-Err-Error-nullable_record_type.ensures.reads c.in-Err-Error-nullable_record_type.field-0-is c.in_ok-rest.ensures.reads))))))

pub types::non_any_type-returns-in_err-rest-clause-reads : goal.types::non_any_type-returns-in_err-rest-clause-reads
types::non_any_type-returns-in_err-rest-clause-reads t c = exit_answers c.from_residual.result (non_any_type_fault (stop_next _ _ c.in-Err-Error.ensures.reads c.in-Err-Error.field-0-is (stop_next _ _ c.in-Err-Error-before_sequence.ensures.reads c.in-Err-Error-before_sequence.field-0-is (stop_next _ _ c.in-Err-Error-nullable_sequence_type.ensures.reads c.in-Err-Error-nullable_sequence_type.field-0-is (stop_next _ _ c.in-Err-Error-after_sequence.ensures.reads c.in-Err-Error-after_sequence.field-0-is (stop_next _ _ c.in-Err-Error-nullable_frozen_array_type.ensures.reads c.in-Err-Error-nullable_frozen_array_type.field-0-is (stop_next _ _ c.in-Err-Error-nullable_record_type.ensures.reads c.in-Err-Error-nullable_record_type.field-0-is c.in_err-rest.ensures.reads))))))) c.from_residual.ensures.1

pub types::record_key_type-returns-in-Ok-clause-reads : goal.types::record_key_type-returns-in-Ok-clause-reads
types::record_key_type-returns-in-Ok-clause-reads t c = record_key_type_got_0 (take_first _ _ c.in-Ok.ensures.reads)

pub types::record_key_type-returns-in-Err-Failure-clause-reads : goal.types::record_key_type-returns-in-Err-Failure-clause-reads
types::record_key_type-returns-in-Err-Failure-clause-reads t c = record_key_type_fault (stop_first _ _ c.in-Err-Failure.ensures.reads c.in-Err-Failure.field-0-is)

pub types::record_key_type-returns-in-Ok-word-clause-reads : goal.types::record_key_type-returns-in-Ok-word-clause-reads
types::record_key_type-returns-in-Ok-word-clause-reads t c = record_key_type_got_1 (take_next _ _ c.in-Err-Error.ensures.reads c.in-Err-Error.field-0-is (take_first _ _ c.in-Ok-word.ensures.reads))

pub types::record_key_type-returns-in-Err-Failure-word-clause-reads : goal.types::record_key_type-returns-in-Err-Failure-word-clause-reads
types::record_key_type-returns-in-Err-Failure-word-clause-reads t c = record_key_type_fault (stop_next _ _ c.in-Err-Error.ensures.reads c.in-Err-Error.field-0-is (stop_first _ _ c.in-Err-Failure-word.ensures.reads c.in-Err-Failure-word.field-0-is))

pub types::record_key_type-returns-in-Ok-word-2-clause-reads : goal.types::record_key_type-returns-in-Ok-word-2-clause-reads
types::record_key_type-returns-in-Ok-word-2-clause-reads t c = record_key_type_got_2 (take_next _ _ c.in-Err-Error.ensures.reads c.in-Err-Error.field-0-is (take_next _ _ c.in-Err-Error-word.ensures.reads c.in-Err-Error-word.field-0-is (take_first _ _ c.in-Ok-word-2.ensures.reads)))

pub types::record_key_type-returns-in-Err-Failure-word-2-clause-reads : goal.types::record_key_type-returns-in-Err-Failure-word-2-clause-reads
types::record_key_type-returns-in-Err-Failure-word-2-clause-reads t c = record_key_type_fault (stop_next _ _ c.in-Err-Error.ensures.reads c.in-Err-Error.field-0-is (stop_next _ _ c.in-Err-Error-word.ensures.reads c.in-Err-Error-word.field-0-is (stop_first _ _ c.in-Err-Failure-word-2.ensures.reads c.in-Err-Failure-word-2.field-0-is)))

pub types::record_key_type-returns-clause-reads : goal.types::record_key_type-returns-clause-reads
types::record_key_type-returns-clause-reads t c = record_key_type_got_3 (take_next _ _ c.in-Err-Error.ensures.reads c.in-Err-Error.field-0-is (take_next _ _ c.in-Err-Error-word.ensures.reads c.in-Err-Error-word.field-0-is (take_next _ _ c.in-Err-Error-word-2.ensures.reads c.in-Err-Error-word-2.field-0-is c.in_ok-rest.ensures.reads)))

pub types::record_key_type-returns-in_err-rest-clause-reads : goal.types::record_key_type-returns-in_err-rest-clause-reads
types::record_key_type-returns-in_err-rest-clause-reads t c = exit_answers c.from_residual.result (record_key_type_fault (stop_next _ _ c.in-Err-Error.ensures.reads c.in-Err-Error.field-0-is (stop_next _ _ c.in-Err-Error-word.ensures.reads c.in-Err-Error-word.field-0-is (stop_next _ _ c.in-Err-Error-word-2.ensures.reads c.in-Err-Error-word-2.field-0-is c.in_err-rest.ensures.reads)))) c.from_residual.ensures.1

pub types::return_type-returns-in-Ok-clause-reads : goal.types::return_type-returns-in-Ok-clause-reads
types::return_type-returns-in-Ok-clause-reads t c = return_type_got_0 (take_first _ _ c.in-Ok.ensures.reads)

pub types::return_type-returns-in-Err-Failure-clause-reads : goal.types::return_type-returns-in-Err-Failure-clause-reads
types::return_type-returns-in-Err-Failure-clause-reads t c = return_type_fault (stop_first _ _ c.in-Err-Failure.ensures.reads c.in-Err-Failure.field-0-is)

pub types::return_type-returns-clause-reads : goal.types::return_type-returns-clause-reads
types::return_type-returns-clause-reads t c = return_type_got_1 (take_next _ _ c.in-Err-Error.ensures.reads c.in-Err-Error.field-0-is c.in_ok-rest.ensures.reads)

pub types::return_type-returns-in_err-rest-clause-reads : goal.types::return_type-returns-in_err-rest-clause-reads
types::return_type-returns-in_err-rest-clause-reads t c = exit_answers c.from_residual.result (return_type_fault (stop_next _ _ c.in-Err-Error.ensures.reads c.in-Err-Error.field-0-is c.in_err-rest.ensures.reads)) c.from_residual.ensures.1

pub unions::union_member_type-returns-in-Ok-clause-reads : goal.unions::union_member_type-returns-in-Ok-clause-reads
unions::union_member_type-returns-in-Ok-clause-reads t c = union_member_type_got_0 (take_first _ _ c.in-Ok.ensures.reads)

pub unions::union_member_type-returns-in-Err-Failure-clause-reads : goal.unions::union_member_type-returns-in-Err-Failure-clause-reads
unions::union_member_type-returns-in-Err-Failure-clause-reads t c = union_member_type_fault (stop_first _ _ c.in-Err-Failure.ensures.reads c.in-Err-Failure.field-0-is)

pub unions::union_member_type-returns-clause-reads : goal.unions::union_member_type-returns-clause-reads
unions::union_member_type-returns-clause-reads t c = union_member_type_got_1 (take_next _ _ c.in-Err-Error.ensures.reads c.in-Err-Error.field-0-is c.in_ok-rest.ensures.reads)

pub unions::union_member_type-returns-in_err-rest-clause-reads : goal.unions::union_member_type-returns-in_err-rest-clause-reads
unions::union_member_type-returns-in_err-rest-clause-reads t c = exit_answers c.from_residual.result (union_member_type_fault (stop_next _ _ c.in-Err-Error.ensures.reads c.in-Err-Error.field-0-is c.in_err-rest.ensures.reads)) c.from_residual.ensures.1

pub unions::more_union_member_types-items-init : goal.unions::more_union_member_types-items-init
unions::more_union_member_types-items-init t c =
    let pushed : c.push.new.self.items ≡ c.new-list.result.items ++ (c.args.first ∷ []) = rw c.if-is_err.ensures.negation at c.push.ensures.items in
    let one : c.push.new.self.items ≡ c.args.first ∷ [] = pushed ∙ ap (λ (l : List UnionMemberType). l ++ (c.args.first ∷ [])) c.new-list.ensures.items in
    (search rules, omega arith, ([], one, reached_none (next_step (own UNION_MEMBER_TYPE union_member_type_tree (Unit {0})) (mark {V = Or} OR)) c.args.input.now (search rules)))

pub unions::more_union_member_types-returns-then-is_err-clause-reads : goal.unions::more_union_member_types-returns-then-is_err-clause-reads
unions::more_union_member_types-returns-then-is_err-clause-reads t c = list_full (own UNION_MEMBER_TYPE union_member_type_tree (Unit {0})) (mark {V = Or} OR) (λ (l : Vec UnionMemberType Global). l.items) c.args.first (reached_none (next_step (own UNION_MEMBER_TYPE union_member_type_tree (Unit {0})) (mark {V = Or} OR)) c.args.input.now (search rules)) c.out_of_memory.ensures

pub unions::more_union_member_types-returns-then-is_err-2-clause-reads : goal.unions::more_union_member_types-returns-then-is_err-2-clause-reads
unions::more_union_member_types-returns-then-is_err-2-clause-reads t c = list_full (own UNION_MEMBER_TYPE union_member_type_tree (Unit {0})) (mark {V = Or} OR) (λ (l : Vec UnionMemberType Global). l.items) c.args.first c.items.invariant.2.2 c.out_of_memory-then-is_err-2.ensures

pub unions::more_union_member_types-returns-in-Err-Error-clause-reads : goal.unions::more_union_member_types-returns-in-Err-Error-clause-reads
unions::more_union_member_types-returns-in-Err-Error-clause-reads t c = list_ends (own UNION_MEMBER_TYPE union_member_type_tree (Unit {0})) (mark {V = Or} OR) (λ (l : Vec UnionMemberType Global). l.items) c.args.first c.items.invariant.2.2 c.items.list c.items.invariant.2.1 (inl (refused_by _ c.in-Err-Error.ensures.reads c.in-Err-Error.field-0-is))

pub unions::more_union_member_types-returns-in-Err-Failure-clause-reads : goal.unions::more_union_member_types-returns-in-Err-Failure-clause-reads
unions::more_union_member_types-returns-in-Err-Failure-clause-reads t c = rw c.in-Err-Failure.field-0-is (separator_fault (own UNION_MEMBER_TYPE union_member_type_tree (Unit {0})) (mark {V = Or} OR) (λ (l : Vec UnionMemberType Global). l.items) c.args.first c.items.invariant.2.2 (direct_stop _ c.in-Err-Failure.ensures.reads c.in-Err-Failure.field-0-is))

pub unions::more_union_member_types-returns-in-Err-Error-union_member_type-clause-reads : goal.unions::more_union_member_types-returns-in-Err-Error-union_member_type-clause-reads
unions::more_union_member_types-returns-in-Err-Error-union_member_type-clause-reads t c = list_ends (own UNION_MEMBER_TYPE union_member_type_tree (Unit {0})) (mark {V = Or} OR) (λ (l : Vec UnionMemberType Global). l.items) c.args.first c.items.invariant.2.2 c.items.list c.items.invariant.2.1 (ends_behind (own UNION_MEMBER_TYPE union_member_type_tree (Unit {0})) (mark {V = Or} OR) c.in-Ok.ensures.reads (λ e. omega (arith, e, c.in-Ok.ensures.shorter)) (refused_by _ c.in-Err-Error-union_member_type.ensures.reads c.in-Err-Error-union_member_type.field-0-is))

pub unions::more_union_member_types-returns-in-Err-Failure-union_member_type-clause-reads : goal.unions::more_union_member_types-returns-in-Err-Failure-union_member_type-clause-reads
unions::more_union_member_types-returns-in-Err-Failure-union_member_type-clause-reads t c = rw c.in-Err-Failure-union_member_type.field-0-is (item_fault (own UNION_MEMBER_TYPE union_member_type_tree (Unit {0})) (mark {V = Or} OR) (λ (l : Vec UnionMemberType Global). l.items) c.args.first c.items.invariant.2.2 c.in-Ok.ensures.reads (λ e. omega (arith, e, c.in-Ok.ensures.shorter)) (direct_stop _ c.in-Err-Failure-union_member_type.ensures.reads c.in-Err-Failure-union_member_type.field-0-is))

pub unions::more_union_member_types-items-preserved : goal.unions::more_union_member_types-items-preserved
unions::more_union_member_types-items-preserved t c =
    let pushed : c.push-in-Ok-union_member_type.new.self.items ≡ c.items.list.items ++ (c.in-Ok-union_member_type.item ∷ []) = rw c.if-is_err-2.ensures.negation at c.push-in-Ok-union_member_type.ensures.items in
    let next = reached_next (own UNION_MEMBER_TYPE union_member_type_tree (Unit {0})) (mark {V = Or} OR) c.items.invariant.2.2 c.in-Ok.ensures.reads (λ e. omega (arith, e, c.in-Ok.ensures.shorter)) c.in-Ok-union_member_type.ensures.reads in
    (search rules, omega (arith, c.items.invariant.1, c.in-Ok.ensures.shorter, c.in-Ok-union_member_type.ensures.shorter), (c.items.invariant.2.0 ++ (c.in-Ok-union_member_type.item ∷ []), pushed ∙ ap (λ (l : List UnionMemberType). l ++ (c.in-Ok-union_member_type.item ∷ [])) c.items.invariant.2.1, next))

pub unions::union_member_types-returns-in_ok-rest-in-Ok-clause-reads : goal.unions::union_member_types-returns-in_ok-rest-in-Ok-clause-reads
unions::union_member_types-returns-in_ok-rest-in-Ok-clause-reads t c = union_member_types_some _ c.in-Ok.ensures.reads c.in_ok-rest-in-Ok.ensures.reads c.shrink_to_fit.ensures.items

pub unions::union_member_types-returns-in-Err-Error-clause-reads : goal.unions::union_member_types-returns-in-Err-Error-clause-reads
unions::union_member_types-returns-in-Err-Error-clause-reads t c = union_member_types_none _ c.in-Err-Error.ensures.reads c.in-Err-Error.field-0-is (search rules) c.new-list.ensures.items

pub unions::union_member_types-returns-in-Err-Failure-clause-reads : goal.unions::union_member_types-returns-in-Err-Failure-clause-reads
unions::union_member_types-returns-in-Err-Failure-clause-reads t c = union_member_types_fault c.in-Err-Failure.ensures.reads c.in-Err-Failure.field-0-is

pub attributes::extended_attribute-returns-in-Ok-clause-reads : goal.attributes::extended_attribute-returns-in-Ok-clause-reads
attributes::extended_attribute-returns-in-Ok-clause-reads t c = extended_attribute_got_0 (take_first _ _ c.in-Ok.ensures.reads)

pub attributes::extended_attribute-returns-in-Err-Failure-clause-reads : goal.attributes::extended_attribute-returns-in-Err-Failure-clause-reads
attributes::extended_attribute-returns-in-Err-Failure-clause-reads t c = extended_attribute_fault (stop_first _ _ c.in-Err-Failure.ensures.reads c.in-Err-Failure.field-0-is)

pub attributes::extended_attribute-returns-in-Ok-extended_attribute_named_arg_list-clause-reads : goal.attributes::extended_attribute-returns-in-Ok-extended_attribute_named_arg_list-clause-reads
attributes::extended_attribute-returns-in-Ok-extended_attribute_named_arg_list-clause-reads t c = extended_attribute_got_1 (take_next _ _ c.in-Err-Error.ensures.reads c.in-Err-Error.field-0-is (take_first _ _ c.in-Ok-extended_attribute_named_arg_list.ensures.reads))

pub attributes::extended_attribute-returns-in-Err-Failure-extended_attribute_named_arg_list-clause-reads : goal.attributes::extended_attribute-returns-in-Err-Failure-extended_attribute_named_arg_list-clause-reads
attributes::extended_attribute-returns-in-Err-Failure-extended_attribute_named_arg_list-clause-reads t c = extended_attribute_fault (stop_next _ _ c.in-Err-Error.ensures.reads c.in-Err-Error.field-0-is (stop_first _ _ c.in-Err-Failure-extended_attribute_named_arg_list.ensures.reads c.in-Err-Failure-extended_attribute_named_arg_list.field-0-is))

pub attributes::extended_attribute-returns-in-Ok-word-clause-reads : goal.attributes::extended_attribute-returns-in-Ok-word-clause-reads
attributes::extended_attribute-returns-in-Ok-word-clause-reads t c = extended_attribute_got_2 (take_next _ _ c.in-Err-Error.ensures.reads c.in-Err-Error.field-0-is (take_next _ _ c.in-Err-Error-extended_attribute_named_arg_list.ensures.reads c.in-Err-Error-extended_attribute_named_arg_list.field-0-is (take_first _ _ c.in-Ok-word.ensures.reads)))

pub attributes::extended_attribute-returns-in-Err-Failure-word-clause-reads : goal.attributes::extended_attribute-returns-in-Err-Failure-word-clause-reads
attributes::extended_attribute-returns-in-Err-Failure-word-clause-reads t c = extended_attribute_fault (stop_next _ _ c.in-Err-Error.ensures.reads c.in-Err-Error.field-0-is (stop_next _ _ c.in-Err-Error-extended_attribute_named_arg_list.ensures.reads c.in-Err-Error-extended_attribute_named_arg_list.field-0-is (stop_first _ _ c.in-Err-Failure-word.ensures.reads c.in-Err-Failure-word.field-0-is)))

pub attributes::extended_attribute-returns-in-Ok-word-2-clause-reads : goal.attributes::extended_attribute-returns-in-Ok-word-2-clause-reads
attributes::extended_attribute-returns-in-Ok-word-2-clause-reads t c = extended_attribute_got_3 (take_next _ _ c.in-Err-Error.ensures.reads c.in-Err-Error.field-0-is (take_next _ _ c.in-Err-Error-extended_attribute_named_arg_list.ensures.reads c.in-Err-Error-extended_attribute_named_arg_list.field-0-is (take_next _ _ c.in-Err-Error-word.ensures.reads c.in-Err-Error-word.field-0-is (take_first _ _ c.in-Ok-word-2.ensures.reads))))

pub attributes::extended_attribute-returns-in-Err-Failure-word-2-clause-reads : goal.attributes::extended_attribute-returns-in-Err-Failure-word-2-clause-reads
attributes::extended_attribute-returns-in-Err-Failure-word-2-clause-reads t c = extended_attribute_fault (stop_next _ _ c.in-Err-Error.ensures.reads c.in-Err-Error.field-0-is (stop_next _ _ c.in-Err-Error-extended_attribute_named_arg_list.ensures.reads c.in-Err-Error-extended_attribute_named_arg_list.field-0-is (stop_next _ _ c.in-Err-Error-word.ensures.reads c.in-Err-Error-word.field-0-is (stop_first _ _ c.in-Err-Failure-word-2.ensures.reads c.in-Err-Failure-word-2.field-0-is))))

pub attributes::extended_attribute-returns-clause-reads : goal.attributes::extended_attribute-returns-clause-reads
attributes::extended_attribute-returns-clause-reads t c = extended_attribute_got_4 (take_next _ _ c.in-Err-Error.ensures.reads c.in-Err-Error.field-0-is (take_next _ _ c.in-Err-Error-extended_attribute_named_arg_list.ensures.reads c.in-Err-Error-extended_attribute_named_arg_list.field-0-is (take_next _ _ c.in-Err-Error-word.ensures.reads c.in-Err-Error-word.field-0-is (take_next _ _ c.in-Err-Error-word-2.ensures.reads c.in-Err-Error-word-2.field-0-is c.in_ok-rest.ensures.reads))))

pub attributes::extended_attribute-returns-in_err-rest-clause-reads : goal.attributes::extended_attribute-returns-in_err-rest-clause-reads
attributes::extended_attribute-returns-in_err-rest-clause-reads t c = exit_answers c.from_residual.result (extended_attribute_fault (stop_next _ _ c.in-Err-Error.ensures.reads c.in-Err-Error.field-0-is (stop_next _ _ c.in-Err-Error-extended_attribute_named_arg_list.ensures.reads c.in-Err-Error-extended_attribute_named_arg_list.field-0-is (stop_next _ _ c.in-Err-Error-word.ensures.reads c.in-Err-Error-word.field-0-is (stop_next _ _ c.in-Err-Error-word-2.ensures.reads c.in-Err-Error-word-2.field-0-is c.in_err-rest.ensures.reads))))) c.from_residual.ensures.1

pub attributes::more_extended_attributes-items-init : goal.attributes::more_extended_attributes-items-init
attributes::more_extended_attributes-items-init t c =
    let pushed : c.push.new.self.items ≡ c.new-list.result.items ++ (c.args.first ∷ []) = rw c.if-is_err.ensures.negation at c.push.ensures.items in
    let one : c.push.new.self.items ≡ c.args.first ∷ [] = pushed ∙ ap (λ (l : List ExtendedAttribute). l ++ (c.args.first ∷ [])) c.new-list.ensures.items in
    (search rules, omega arith, ([], one, reached_none (next_step (own EXTENDED_ATTRIBUTE extended_attribute_tree (Unit {0})) (mark {V = Comma} COMMA)) c.args.input.now (search rules)))

pub attributes::more_extended_attributes-returns-then-is_err-clause-reads : goal.attributes::more_extended_attributes-returns-then-is_err-clause-reads
attributes::more_extended_attributes-returns-then-is_err-clause-reads t c = list_full (own EXTENDED_ATTRIBUTE extended_attribute_tree (Unit {0})) (mark {V = Comma} COMMA) (λ (l : Vec ExtendedAttribute Global). l.items) c.args.first (reached_none (next_step (own EXTENDED_ATTRIBUTE extended_attribute_tree (Unit {0})) (mark {V = Comma} COMMA)) c.args.input.now (search rules)) c.out_of_memory.ensures

pub attributes::more_extended_attributes-returns-then-is_err-2-clause-reads : goal.attributes::more_extended_attributes-returns-then-is_err-2-clause-reads
attributes::more_extended_attributes-returns-then-is_err-2-clause-reads t c = list_full (own EXTENDED_ATTRIBUTE extended_attribute_tree (Unit {0})) (mark {V = Comma} COMMA) (λ (l : Vec ExtendedAttribute Global). l.items) c.args.first c.items.invariant.2.2 c.out_of_memory-then-is_err-2.ensures

pub attributes::more_extended_attributes-returns-in-Err-Error-clause-reads : goal.attributes::more_extended_attributes-returns-in-Err-Error-clause-reads
attributes::more_extended_attributes-returns-in-Err-Error-clause-reads t c = list_ends (own EXTENDED_ATTRIBUTE extended_attribute_tree (Unit {0})) (mark {V = Comma} COMMA) (λ (l : Vec ExtendedAttribute Global). l.items) c.args.first c.items.invariant.2.2 c.items.list c.items.invariant.2.1 (inl (refused_by _ c.in-Err-Error.ensures.reads c.in-Err-Error.field-0-is))

pub attributes::more_extended_attributes-returns-in-Err-Failure-clause-reads : goal.attributes::more_extended_attributes-returns-in-Err-Failure-clause-reads
attributes::more_extended_attributes-returns-in-Err-Failure-clause-reads t c = rw c.in-Err-Failure.field-0-is (separator_fault (own EXTENDED_ATTRIBUTE extended_attribute_tree (Unit {0})) (mark {V = Comma} COMMA) (λ (l : Vec ExtendedAttribute Global). l.items) c.args.first c.items.invariant.2.2 (direct_stop _ c.in-Err-Failure.ensures.reads c.in-Err-Failure.field-0-is))

pub attributes::more_extended_attributes-returns-in-Err-Error-extended_attribute-clause-reads : goal.attributes::more_extended_attributes-returns-in-Err-Error-extended_attribute-clause-reads
attributes::more_extended_attributes-returns-in-Err-Error-extended_attribute-clause-reads t c = list_ends (own EXTENDED_ATTRIBUTE extended_attribute_tree (Unit {0})) (mark {V = Comma} COMMA) (λ (l : Vec ExtendedAttribute Global). l.items) c.args.first c.items.invariant.2.2 c.items.list c.items.invariant.2.1 (ends_behind (own EXTENDED_ATTRIBUTE extended_attribute_tree (Unit {0})) (mark {V = Comma} COMMA) c.in-Ok.ensures.reads (λ e. omega (arith, e, c.in-Ok.ensures.shorter)) (refused_by _ c.in-Err-Error-extended_attribute.ensures.reads c.in-Err-Error-extended_attribute.field-0-is))

pub attributes::more_extended_attributes-returns-in-Err-Failure-extended_attribute-clause-reads : goal.attributes::more_extended_attributes-returns-in-Err-Failure-extended_attribute-clause-reads
attributes::more_extended_attributes-returns-in-Err-Failure-extended_attribute-clause-reads t c = rw c.in-Err-Failure-extended_attribute.field-0-is (item_fault (own EXTENDED_ATTRIBUTE extended_attribute_tree (Unit {0})) (mark {V = Comma} COMMA) (λ (l : Vec ExtendedAttribute Global). l.items) c.args.first c.items.invariant.2.2 c.in-Ok.ensures.reads (λ e. omega (arith, e, c.in-Ok.ensures.shorter)) (direct_stop _ c.in-Err-Failure-extended_attribute.ensures.reads c.in-Err-Failure-extended_attribute.field-0-is))

pub attributes::more_extended_attributes-items-preserved : goal.attributes::more_extended_attributes-items-preserved
attributes::more_extended_attributes-items-preserved t c =
    let pushed : c.push-in-Ok-extended_attribute.new.self.items ≡ c.items.list.items ++ (c.in-Ok-extended_attribute.item ∷ []) = rw c.if-is_err-2.ensures.negation at c.push-in-Ok-extended_attribute.ensures.items in
    let next = reached_next (own EXTENDED_ATTRIBUTE extended_attribute_tree (Unit {0})) (mark {V = Comma} COMMA) c.items.invariant.2.2 c.in-Ok.ensures.reads (λ e. omega (arith, e, c.in-Ok.ensures.shorter)) c.in-Ok-extended_attribute.ensures.reads in
    (search rules, omega (arith, c.items.invariant.1, c.in-Ok.ensures.shorter, c.in-Ok-extended_attribute.ensures.shorter), (c.items.invariant.2.0 ++ (c.in-Ok-extended_attribute.item ∷ []), pushed ∙ ap (λ (l : List ExtendedAttribute). l ++ (c.in-Ok-extended_attribute.item ∷ [])) c.items.invariant.2.1, next))

pub attributes::extended_attributes-returns-in_ok-rest-in-Ok-clause-reads : goal.attributes::extended_attributes-returns-in_ok-rest-in-Ok-clause-reads
attributes::extended_attributes-returns-in_ok-rest-in-Ok-clause-reads t c = extended_attributes_some _ c.in-Ok.ensures.reads c.in_ok-rest-in-Ok.ensures.reads c.shrink_to_fit.ensures.items

pub attributes::extended_attributes-returns-in-Err-Error-clause-reads : goal.attributes::extended_attributes-returns-in-Err-Error-clause-reads
attributes::extended_attributes-returns-in-Err-Error-clause-reads t c = extended_attributes_none _ c.in-Err-Error.ensures.reads c.in-Err-Error.field-0-is (search rules) c.new-list.ensures.items

pub attributes::extended_attributes-returns-in-Err-Failure-clause-reads : goal.attributes::extended_attributes-returns-in-Err-Failure-clause-reads
attributes::extended_attributes-returns-in-Err-Failure-clause-reads t c = extended_attributes_fault c.in-Err-Failure.ensures.reads c.in-Err-Failure.field-0-is

pub arguments::argument-returns-in-Ok-clause-reads : goal.arguments::argument-returns-in-Ok-clause-reads
arguments::argument-returns-in-Ok-clause-reads t c = argument_got_0 (take_first _ _ c.in-Ok.ensures.reads)

pub arguments::argument-returns-in-Err-Failure-clause-reads : goal.arguments::argument-returns-in-Err-Failure-clause-reads
arguments::argument-returns-in-Err-Failure-clause-reads t c = argument_fault (stop_first _ _ c.in-Err-Failure.ensures.reads c.in-Err-Failure.field-0-is)

pub arguments::argument-returns-clause-reads : goal.arguments::argument-returns-clause-reads
arguments::argument-returns-clause-reads t c = argument_got_1 (take_next _ _ c.in-Err-Error.ensures.reads c.in-Err-Error.field-0-is c.in_ok-rest.ensures.reads)

pub arguments::argument-returns-in_err-rest-clause-reads : goal.arguments::argument-returns-in_err-rest-clause-reads
arguments::argument-returns-in_err-rest-clause-reads t c = exit_answers c.from_residual.result (argument_fault (stop_next _ _ c.in-Err-Error.ensures.reads c.in-Err-Error.field-0-is c.in_err-rest.ensures.reads)) c.from_residual.ensures.1

pub arguments::more_arguments-items-init : goal.arguments::more_arguments-items-init
arguments::more_arguments-items-init t c =
    let pushed : c.push.new.self.items ≡ c.new-list.result.items ++ (c.args.first ∷ []) = rw c.if-is_err.ensures.negation at c.push.ensures.items in
    let one : c.push.new.self.items ≡ c.args.first ∷ [] = pushed ∙ ap (λ (l : List Argument). l ++ (c.args.first ∷ [])) c.new-list.ensures.items in
    (search rules, omega arith, ([], one, reached_none (next_step (own ARGUMENT argument_tree (Unit {0})) (mark {V = Comma} COMMA)) c.args.input.now (search rules)))

pub arguments::more_arguments-returns-then-is_err-clause-reads : goal.arguments::more_arguments-returns-then-is_err-clause-reads
arguments::more_arguments-returns-then-is_err-clause-reads t c = list_full (own ARGUMENT argument_tree (Unit {0})) (mark {V = Comma} COMMA) (λ (l : Vec Argument Global). l.items) c.args.first (reached_none (next_step (own ARGUMENT argument_tree (Unit {0})) (mark {V = Comma} COMMA)) c.args.input.now (search rules)) c.out_of_memory.ensures

pub arguments::more_arguments-returns-then-is_err-2-clause-reads : goal.arguments::more_arguments-returns-then-is_err-2-clause-reads
arguments::more_arguments-returns-then-is_err-2-clause-reads t c = list_full (own ARGUMENT argument_tree (Unit {0})) (mark {V = Comma} COMMA) (λ (l : Vec Argument Global). l.items) c.args.first c.items.invariant.2.2 c.out_of_memory-then-is_err-2.ensures

pub arguments::more_arguments-returns-in-Err-Error-clause-reads : goal.arguments::more_arguments-returns-in-Err-Error-clause-reads
arguments::more_arguments-returns-in-Err-Error-clause-reads t c = list_ends (own ARGUMENT argument_tree (Unit {0})) (mark {V = Comma} COMMA) (λ (l : Vec Argument Global). l.items) c.args.first c.items.invariant.2.2 c.items.list c.items.invariant.2.1 (inl (refused_by _ c.in-Err-Error.ensures.reads c.in-Err-Error.field-0-is))

pub arguments::more_arguments-returns-in-Err-Failure-clause-reads : goal.arguments::more_arguments-returns-in-Err-Failure-clause-reads
arguments::more_arguments-returns-in-Err-Failure-clause-reads t c = rw c.in-Err-Failure.field-0-is (separator_fault (own ARGUMENT argument_tree (Unit {0})) (mark {V = Comma} COMMA) (λ (l : Vec Argument Global). l.items) c.args.first c.items.invariant.2.2 (direct_stop _ c.in-Err-Failure.ensures.reads c.in-Err-Failure.field-0-is))

pub arguments::more_arguments-returns-in-Err-Error-argument-clause-reads : goal.arguments::more_arguments-returns-in-Err-Error-argument-clause-reads
arguments::more_arguments-returns-in-Err-Error-argument-clause-reads t c = list_ends (own ARGUMENT argument_tree (Unit {0})) (mark {V = Comma} COMMA) (λ (l : Vec Argument Global). l.items) c.args.first c.items.invariant.2.2 c.items.list c.items.invariant.2.1 (ends_behind (own ARGUMENT argument_tree (Unit {0})) (mark {V = Comma} COMMA) c.in-Ok.ensures.reads (λ e. omega (arith, e, c.in-Ok.ensures.shorter)) (refused_by _ c.in-Err-Error-argument.ensures.reads c.in-Err-Error-argument.field-0-is))

pub arguments::more_arguments-returns-in-Err-Failure-argument-clause-reads : goal.arguments::more_arguments-returns-in-Err-Failure-argument-clause-reads
arguments::more_arguments-returns-in-Err-Failure-argument-clause-reads t c = rw c.in-Err-Failure-argument.field-0-is (item_fault (own ARGUMENT argument_tree (Unit {0})) (mark {V = Comma} COMMA) (λ (l : Vec Argument Global). l.items) c.args.first c.items.invariant.2.2 c.in-Ok.ensures.reads (λ e. omega (arith, e, c.in-Ok.ensures.shorter)) (direct_stop _ c.in-Err-Failure-argument.ensures.reads c.in-Err-Failure-argument.field-0-is))

pub arguments::more_arguments-items-preserved : goal.arguments::more_arguments-items-preserved
arguments::more_arguments-items-preserved t c =
    let pushed : c.push-in-Ok-argument.new.self.items ≡ c.items.list.items ++ (c.in-Ok-argument.item ∷ []) = rw c.if-is_err-2.ensures.negation at c.push-in-Ok-argument.ensures.items in
    let next = reached_next (own ARGUMENT argument_tree (Unit {0})) (mark {V = Comma} COMMA) c.items.invariant.2.2 c.in-Ok.ensures.reads (λ e. omega (arith, e, c.in-Ok.ensures.shorter)) c.in-Ok-argument.ensures.reads in
    (search rules, omega (arith, c.items.invariant.1, c.in-Ok.ensures.shorter, c.in-Ok-argument.ensures.shorter), (c.items.invariant.2.0 ++ (c.in-Ok-argument.item ∷ []), pushed ∙ ap (λ (l : List Argument). l ++ (c.in-Ok-argument.item ∷ [])) c.items.invariant.2.1, next))

pub arguments::argument_list-returns-in_ok-rest-in-Ok-clause-reads : goal.arguments::argument_list-returns-in_ok-rest-in-Ok-clause-reads
arguments::argument_list-returns-in_ok-rest-in-Ok-clause-reads t c = argument_list_some _ c.in-Ok.ensures.reads c.in_ok-rest-in-Ok.ensures.reads c.shrink_to_fit.ensures.items

pub arguments::argument_list-returns-in-Err-Error-clause-reads : goal.arguments::argument_list-returns-in-Err-Error-clause-reads
arguments::argument_list-returns-in-Err-Error-clause-reads t c = argument_list_none _ c.in-Err-Error.ensures.reads c.in-Err-Error.field-0-is (search rules) c.new-list.ensures.items

pub arguments::argument_list-returns-in-Err-Failure-clause-reads : goal.arguments::argument_list-returns-in-Err-Failure-clause-reads
arguments::argument_list-returns-in-Err-Failure-clause-reads t c = argument_list_fault c.in-Err-Failure.ensures.reads c.in-Err-Failure.field-0-is

-- Attributes that may be left out, and an argument with or without a default.

pub attributes::attributes-returns-in-Ok-clause-reads : goal.attributes::attributes-returns-in-Ok-clause-reads
attributes::attributes-returns-in-Ok-clause-reads t c = attributes_some c.in-Ok.ensures.reads

pub attributes::attributes-returns-in-Err-Error-clause-reads : goal.attributes::attributes-returns-in-Err-Error-clause-reads
attributes::attributes-returns-in-Err-Error-clause-reads t c = attributes_none c.in-Err-Error.ensures.reads c.in-Err-Error.field-0-is (search rules)

pub attributes::attributes-returns-in-Err-Failure-clause-reads : goal.attributes::attributes-returns-in-Err-Failure-clause-reads
attributes::attributes-returns-in-Err-Failure-clause-reads t c = attributes_fault c.in-Err-Failure.ensures.reads c.in-Err-Failure.field-0-is

pub arguments::single_argument-returns-in_ok-rest-in-Some-clause-reads : goal.arguments::single_argument-returns-in_ok-rest-in-Some-clause-reads
arguments::single_argument-returns-in_ok-rest-in-Some-clause-reads t c =
    single_argument_when _ (got_pair _ _ c.in_ok-rest.ensures.reads (got_pair _ _ (rw c.in-Some.is at c.in_ok-rest-2.ensures.reads) (got_pair _ _ c.in_ok-rest-3.ensures.reads c.in_ok-rest-4.ensures.reads))) refl c.in_ok-rest-in-Some.ensures.reads

pub arguments::single_argument-returns-in_err-rest-in-Some-clause-reads : goal.arguments::single_argument-returns-in_err-rest-in-Some-clause-reads
arguments::single_argument-returns-in_err-rest-in-Some-clause-reads t c =
    exit_answers c.from_residual-in_err-rest-in-Some.result
    (single_argument_fault_when (got_pair _ _ c.in_ok-rest.ensures.reads (got_pair _ _ (rw c.in-Some.is at c.in_ok-rest-2.ensures.reads) (got_pair _ _ c.in_ok-rest-3.ensures.reads c.in_ok-rest-4.ensures.reads))) c.in_err-rest-in-Some.ensures.reads)
    c.from_residual-in_err-rest-in-Some.ensures.1
